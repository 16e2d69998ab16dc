-- `replaying::replay_one`: the answers to the goals that the check leaves.
use mathlib.Core.Path.{refl}
use mathlib.Core.Bool.{false}
use Rattle.causal.proofs.Tests.{both}
use Rattle.replaying.proofs.Lines.{line_refused, line-listed, line_same, line-fired}
use Rattle.replaying.proofs.replay_one.Goals as goal

pub enable_refusal-requires : goal.enable_refusal-requires
enable_refusal-requires c = (c.requires.0, c.requires.1.parted)

pub returns-then-enable_refusal-ne0 : goal.returns-then-enable_refusal-ne0
returns-then-enable_refusal-ne0 c =
    record {
      value = line_refused c.args.sheet.now c.args.m.now c.args.f c.transition_of-t.result c.transition_of-t.ensures c.enable_refusal.result c.enable_refusal.ensures c.if-enable_refusal-ne0.true;
      after = λ h. both false h refl;
    }

pub fire_in-moved-requires : goal.fire_in-moved-requires
fire_in-moved-requires c = (
  c.requires.0,
  c.requires.1,
  line-listed c.args.sheet.now c.args.m.now c.args.f c.transition_of-t.result c.transition_of-t.ensures c.enable_refusal.result c.enable_refusal.ensures c.if-enable_refusal-ne0.false,
)

pub returns : goal.returns
returns c =
    record {
      value = line_same c.args.sheet.now c.args.m.now c.args.f c.transition_of-t.result c.transition_of-t.ensures c.enable_refusal.result c.enable_refusal.ensures c.if-enable_refusal-ne0.false
          c.fire_in-moved.result c.requires.2 c.fire_in-moved.ensures.moved_value;
      after = λ h. (line-fired c.args.sheet.now c.args.m.now c.args.f c.transition_of-t.result c.transition_of-t.ensures _ c.fire_in-moved.ensures.fired, c.fire_in-moved.ensures.labelled);
    }
