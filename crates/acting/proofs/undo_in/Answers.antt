-- `acting::undo_in`: the answers to the goals that the check leaves.
use Rattle.std.proofs.Common.{◌<◌, refl, sym, ◌∙◌, arith}
use Rattle.net.specs.Limits.{max_live}
use Rattle.sound.proofs.Holds.{live-few, keys-rise}
use Rattle.acting.proofs.Undoes.{dead, built, done}
use Rattle.acting.proofs.undo_in.Goals as goal
use Rattle.acting.proofs.undo_in.Goals.{In-Some}

-- what was found is below the limit
near : (c : In-Some) → c.in-Some.i < max_live
near c =
    let a = live-few c.args.sheet.now c.args.m.now c.args.f.now c.args.given c.requires.0.passed in
    let b = c.in-Some.ensures.1 in
    omega arith

pub index_of-requires : goal.index_of-requires
index_of-requires c = (live-few c.args.sheet.now c.args.m.now c.args.f.now c.args.given c.requires.0.passed, keys-rise c.args.sheet.now c.args.m.now c.args.f.now c.args.given c.requires.0.passed)

pub returns-in_default : goal.returns-in_default
returns-in_default c =
    rw c.refused_in.ensures record {
      did = dead c.args.sheet.now c.args.m.now c.args.f.now c.args.given c.args.movers.now c.args.key c.requires.0 _ c.in_default.ensures (omega arith) _ refl;
      labelled = c.requires.1;
    }

pub bounds-f-i : goal.bounds-f-i
bounds-f-i c = near (goal.at.bounds-f-i c).In-Some

pub returns-then-not-on_top : goal.returns-then-not-on_top
returns-then-not-on_top c =
    rw c.refused_in-then-not-on_top.ensures record {
      did = built c.args.sheet.now c.args.m.now c.args.f.now c.args.given c.args.movers.now c.args.key c.requires.0 _ c.in-Some.ensures.0 c.in-Some.ensures.1 (sym c.on_top.ensures ∙ c.if-not-on_top.true) _ refl;
      labelled = c.requires.1;
    }

pub mark_back-requires : goal.mark_back-requires
mark_back-requires c = let h = near (goal.at.mark_back-requires c).In-Some in omega arith

pub undo_at-requires : goal.undo_at-requires
undo_at-requires c =
    record {
      passed = (c.args.given, c.requires.0.passed);
      labelled = (c.requires.1, c.in-Some.ensures.1);
    }

pub returns : goal.returns
returns c =
    record {
      did = done c.args.sheet.now c.args.m.now c.args.f.now c.args.given c.args.movers.now c.args.key c.requires.0 _ c.in-Some.ensures.0 c.in-Some.ensures.1 (sym c.on_top.ensures ∙ c.if-not-on_top.false) _ _ _ c.undo_at.ensures.undone_at c.mark_back.ensures;
      labelled = c.undo_at.ensures.labelled_2;
    }
