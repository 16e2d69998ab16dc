-- `runs::step_in`: the answers to the goals that the check leaves.
use Rattle.runs.proofs.Turns.{stepped}
use Rattle.runs.proofs.step_in.Goals as goal

pub returns : goal.returns
returns c =
    record {
      step_did = stepped _ c.perform_in-done.result c.perform_in-done.new.m c.perform_in-done.new.f c.perform_in-done.new.movers c.perform_in-done.ensures.did c.args.t _ c.word_of-word.ensures c.value_of-value.ensures.value c.counted-next.ensures;
      labelled = c.perform_in-done.ensures.labelled;
    }
