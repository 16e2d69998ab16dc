-- `acting::fire_in`: the answers to the goals that the check leaves.
use native.Mathlib.Omega.{arith}
use mathlib.Core.Path.{refl}
use Rattle.sheet.proofs.Accepted.{promised}
use Rattle.sound.proofs.Holds.{placed}
use Rattle.acting.proofs.Fires.{not-enabled, listed, full, spent, done}
use Rattle.acting.proofs.fire_in.Goals as goal

pub enable_refusal-refusal-requires : goal.enable_refusal-refusal-requires
enable_refusal-refusal-requires c = (placed c.args.sheet.now c.args.m.now c.args.f.now c.args.given c.requires.0.passed, c.requires.1.parted)

pub returns-then-refusal-ne0 : goal.returns-then-refusal-ne0
returns-then-refusal-ne0 c =
    rw c.refused_in.ensures record {
      did = not-enabled c.args.sheet.now c.args.m.now c.args.f.now c.args.given c.args.movers.now c.args.t c.requires.0 _ c.enable_refusal-refusal.ensures c.if-refusal-ne0.true _ refl;
      labelled = c.requires.1;
    }

pub returns-then-f-ge-MAX_LIVE : goal.returns-then-f-ge-MAX_LIVE
returns-then-f-ge-MAX_LIVE c =
    rw c.refused_in-then-f-ge-MAX_LIVE.ensures record {
      did = full c.args.sheet.now c.args.m.now c.args.f.now c.args.given c.args.movers.now c.args.t c.requires.0 _ c.enable_refusal-refusal.ensures c.if-refusal-ne0.false c.if-f-ge-MAX_LIVE.true _ refl;
      labelled = c.requires.1;
    }

pub returns-then-given-ge-MAX_KEY : goal.returns-then-given-ge-MAX_KEY
returns-then-given-ge-MAX_KEY c =
    rw c.refused_in-then-given-ge-MAX_KEY.ensures record {
      did = spent c.args.sheet.now c.args.m.now c.args.f.now c.args.given c.args.movers.now c.args.t c.requires.0 _ c.enable_refusal-refusal.ensures c.if-refusal-ne0.false c.if-f-ge-MAX_LIVE.false c.if-given-ge-MAX_KEY.true _ refl;
      labelled = c.requires.1;
    }

pub fire_in-moved-requires : goal.fire_in-moved-requires
fire_in-moved-requires c = (placed c.args.sheet.now c.args.m.now c.args.f.now c.args.given c.requires.0.passed, c.requires.1, listed c.args.sheet.now c.args.m.now c.args.f.now c.args.given c.args.movers.now c.args.t c.requires.0 _ c.enable_refusal-refusal.ensures c.if-refusal-ne0.false)

pub overflow_cast-firing : goal.overflow_cast-firing
overflow_cast-firing c =
    let h = listed c.args.sheet.now c.args.m.now c.args.f.now c.args.given c.args.movers.now c.args.t c.requires.0 _ c.enable_refusal-refusal.ensures c.if-refusal-ne0.false in
    let p = (promised c.args.sheet.now c.requires.0.passed.accepted).transitions.1 in
    record { fits = omega arith }

pub returns : goal.returns
returns c =
    record {
      did = done c.args.sheet.now c.args.m.now c.args.f.now c.args.given c.args.movers.now c.args.t c.requires.0 _ c.enable_refusal-refusal.ensures c.if-refusal-ne0.false c.if-f-ge-MAX_LIVE.false c.if-given-ge-MAX_KEY.false _ _ c.fire_in-moved.ensures.fired c.fire_in-moved.ensures.moved_value _ c.push.ensures _ c.mark.ensures;
      labelled = c.fire_in-moved.ensures.labelled;
    }
