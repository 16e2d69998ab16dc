-- `replaying::replay`: the answers to the goals that the check leaves.
-- the run from the start is the run of the firings that are left, from the marking at a turn
use mathlib.Core.Path.{refl}
use mathlib.Core.Bool.{false}
use Rattle.causal.proofs.Tests.{both}
use Rattle.replaying.proofs.Lines.{placed-room, run-stops, run-goes, placed-goes, run_ends}
use Rattle.replaying.proofs.replay.Goals as goal

pub loop-i-init : goal.loop-i-init
loop-i-init c = (c.requires.placed.0, c.requires.placed.1, λ z. refl)

pub replay_one-requires : goal.replay_one-requires
replay_one-requires c = (c.loop-i.invariant.0, c.loop-i.invariant.1, rw c.firing_at-one.ensures (c.requires.by_index c.loop-i.i c.loop-i-test.true))

pub returns-then-not-replay_one : goal.returns-then-not-replay_one
returns-then-not-replay_one c =
    record {
      z_value = run-stops c.args.sheet.now c.args.f.now c.args.m.now c.loop-i.m c.loop-i.i c.loop-i.invariant.2 c.loop-i-test.true c.firing_at-one.result c.firing_at-one.ensures
          c.replay_one.result c.replay_one.ensures.value c.if-not-replay_one.true;
      count_le_max_bonds = λ h. both false h refl;
    }

pub loop-i-preserved : goal.loop-i-preserved
loop-i-preserved c =
    let yes = c.if-not-replay_one.false in
    let done = c.replay_one.ensures.after yes in (
      placed-goes c.args.sheet.now c.args.f.now c.args.m.now c.loop-i.m c.loop-i.i c.loop-i.invariant.2 c.loop-i-test.true c.firing_at-one.result c.firing_at-one.ensures
          c.replay_one.result c.replay_one.ensures.value _ yes done.0 c.loop-i.invariant.0,
      done.1,
      run-goes c.args.sheet.now c.args.f.now c.args.m.now c.loop-i.m c.loop-i.i c.loop-i.invariant.2 c.loop-i-test.true c.firing_at-one.result c.firing_at-one.ensures
          c.replay_one.result c.replay_one.ensures.value _ yes done.0,
    )

pub returns : goal.returns
returns c =
    record {
      z_value = run_ends c.args.sheet.now c.args.f.now c.args.m.now c.loop-i.m c.loop-i.i c.loop-i.invariant.2 c.loop-i-test.false;
      count_le_max_bonds = λ h. placed-room c.args.sheet.now c.loop-i.m c.loop-i.invariant.0;
    }
