-- `steps::undo_in`: the answers to the goals that the check leaves.
use Rattle.std.proofs.Common.{◌∙◌}
use Rattle.net.specs.Firing.{undo}
use Rattle.words.specs.Sets.{set_of}
use Rattle.marking.specs.Form.{marking_of, laid}
use Rattle.steps.proofs.Refusals.{arcs-at, ready_at}
use Rattle.steps.proofs.undo_in.Goals as goal

pub undo_in-requires : goal.undo_in-requires
undo_in-requires c = (ready_at _ c.args.m.now c.args.t _ _ c.base_count-n.ensures c.transition_bytes-step.ensures c.requires.0 c.requires.2, c.requires.1)

pub returns : goal.returns
returns c =
    let m = c.args.m.now in
    let e = c.base_count-n.ensures in
    let t = arcs-at _ m c.args.t _ _ e c.transition_bytes-step.ensures in
    record {
      undone = c.undo_in.ensures.undone ∙ (λ i. laid (undo (e i) (t i) (set_of (e i) c.args.moved) (marking_of (e i) m)));
      labelled = c.undo_in.ensures.labelled;
    }
