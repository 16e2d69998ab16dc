-- `steps::fire_in`: the answers to the goals that the check leaves.
use Rattle.std.proofs.Common.{◌∙◌, rules}
use Rattle.net.specs.Firing.{moved, fire}
use Rattle.words.specs.Sets.{packed}
use Rattle.format.specs.Arcs.{arcs_in}
use Rattle.marking.specs.Form.{bonds_of, marking_of, laid}
use Rattle.enabling.specs.Ready.{Ready}
use Rattle.enabling.proofs.Readiness.{entries-low}
use Rattle.engine.proofs.Moved.{moved-packed}
use Rattle.steps.proofs.Refusals.{arcs-at, ready_at}
use Rattle.steps.proofs.fire_in.Goals as goal
use Rattle.steps.proofs.fire_in.Goals.{After-transition_bytes-step}

ready : (b : After-transition_bytes-step) → Ready b.base_count-n.result (arcs_in b.transition_bytes-step.result.now) b.args.m.now
ready b = ready_at _ b.args.m.now b.args.t _ _ b.base_count-n.ensures b.transition_bytes-step.ensures b.requires.0 b.requires.2

pub moved_word-moved-requires : goal.moved_word-moved-requires
moved_word-moved-requires c =
    record {
      by_index = entries-low _ c.transition_bytes-step.result.now _ (ready c);
      labelled = (_, c.requires.1);
    }

pub fire_in-requires : goal.fire_in-requires
fire_in-requires c = (ready (goal.at.fire_in-requires c).After-transition_bytes-step, c.requires.1)

pub returns : goal.returns
returns c =
    let m = c.args.m.now in
    let e = c.base_count-n.ensures in
    let t = arcs-at _ m c.args.t _ _ e c.transition_bytes-step.ensures in record {
      fired = c.fire_in.ensures.fired ∙ (λ i. laid (fire (e i) (t i) (marking_of (e i) m)));
      moved_value = moved-packed _ _ m (ready (goal.at.returns c).After-transition_bytes-step) c.moved_word-moved.result (search rules) (c.moved_word-moved.ensures (bonds_of m) c.requires.1)
          ∙ (λ i. packed (moved (e i) (t i) (marking_of (e i) m)));
      labelled = c.fire_in.ensures.labelled;
    }
