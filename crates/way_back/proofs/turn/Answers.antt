-- `way_back::turn`: the answers to the goals that the check leaves.
use Rattle.std.proofs.Common.{◌≡◌, ap, ◌∙◌, ℕ, ◌≤◌, arith}
use Rattle.net.specs.Limits.{max_bases}
use Rattle.format.specs.Parts.{bases_of}
use Rattle.layout.specs.Layout.{wrong_base}
use Rattle.sound.proofs.Holds.{few, live-few}
use Rattle.way_back.proofs.Turning.{stops-right, stops-unmoved, takes_back}
use Rattle.way_back.proofs.turn.Goals as goal
use Rattle.way_back.proofs.turn.Goals.{Start, After-wrong_base-p}

few-bases : (s : Start) → bases_of s.args.sheet.now ≤ max_bases
few-bases s = few s.args.sheet.now s.args.m.now s.args.f.now s.requires.passed.0 s.requires.passed.1

-- the first base that is not where it is wanted, by the sheet's own count
wrong : (c : After-wrong_base-p) → c.wrong_base-p.result ≡ wrong_base (bases_of c.args.sheet.now) c.args.layout.now c.args.m.now.places
wrong c = c.wrong_base-p.ensures ∙ ap (λ (n : ℕ). wrong_base n c.args.layout.now c.args.m.now.places) c.base_count-n.ensures

pub wrong_base-p-requires : goal.wrong_base-p-requires
wrong_base-p-requires c =
    let e = c.base_count-n.ensures in
    let h = few-bases (goal.at.wrong_base-p-requires c).Start in
    let l = c.requires.labelled.1 in
    (omega arith, omega arith)

pub returns-then-n-p : goal.returns-then-n-p
returns-then-n-p c =
    let e = c.base_count-n.ensures in
    record {
      searched = stops-right c.args.sheet.now c.args.layout.now c.args.m.now c.args.f.now _ (wrong (goal.at.returns-then-n-p c).After-wrong_base-p) c.args.turns (omega arith);
      labelled_2 = (c.requires.labelled.0, c.requires.labelled.2);
    }

pub overflow_cast-p : goal.overflow_cast-p
overflow_cast-p c =
    let e = c.base_count-n.ensures in
    let h = few-bases (goal.at.overflow_cast-p c).Start in
    record { fits = omega arith }

pub top_at-requires : goal.top_at-requires
top_at-requires c =
    let e = c.base_count-n.ensures in
    let h = few-bases (goal.at.top_at-requires c).Start in
    (live-few c.args.sheet.now c.args.m.now c.args.f.now c.requires.passed.0 c.requires.passed.1, omega arith)

pub returns-in_default : goal.returns-in_default
returns-in_default c =
    record {
      searched = stops-unmoved c.args.sheet.now c.args.layout.now c.args.m.now c.args.f.now _ (wrong (goal.at.returns-in_default c).After-wrong_base-p) c.args.turns c.args.f.now.live c.in_default.ensures (omega arith);
      labelled_2 = (c.requires.labelled.0, c.requires.labelled.2);
    }

pub undo_at-requires : goal.undo_at-requires
undo_at-requires c =
    record {
      passed = c.requires.passed;
      labelled = (c.requires.labelled.0, c.in-Some.ensures.1);
    }

pub returns : goal.returns
returns c =
    let e = c.base_count-n.ensures in
    let lt = c.if-n-p.false in
    let pos = c.requires.labelled.2 in record {
      searched = takes_back c.args.sheet.now c.args.layout.now c.args.m.now c.args.f.now _ (wrong (goal.at.returns c).After-wrong_base-p) c.args.turns pos (omega arith) c.in-Some.i c.in-Some.ensures.0 c.in-Some.ensures.1 _ _ c.undo_at.ensures.undone_at;
      labelled_2 = (c.undo_at.ensures.labelled_2, omega arith);
    }
