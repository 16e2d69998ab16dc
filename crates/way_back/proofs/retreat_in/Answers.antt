-- `way_back::retreat_in`: the answers to the goals that the check leaves.
-- what was lent passes, the layout has a byte for each base, and the search has come as far as m and f with n turns to come
use borrow.Author.Rules.{rules}
use native.Mathlib.Omega.{arith}
use mathlib.Core.Path.{◌≡◌, refl}
use Rattle.net.specs.declared.Key.{Key}
use Rattle.way_back.proofs.Turning.{searched-on}
use Rattle.way_back.proofs.retreat_in.Goals as goal

pub loop-turns-init : goal.loop-turns-init
loop-turns-init c = ((c.requires.passed, c.requires.labelled.1, record { stays = λ k P. P; same = λ k P. refl }), c.requires.labelled.0)

pub turn-turns-requires : goal.turn-turns-requires
turn-turns-requires c =
    let come = c.loop-turns.invariant.0 in
    let k : Key = come.0.0 in
    record {
      passed = (k, come.2.stays k come.0.1);
      labelled = (c.loop-turns.invariant.1, come.1, search rules);
    }

pub loop-turns-preserved : goal.loop-turns-preserved
loop-turns-preserved c =
    let come = c.loop-turns.invariant.0 in
    ((come.0, come.1, searched-on c.args.sheet.now c.args.layout.now _ _ _ _ _ _ _ _ _ come.2 c.turn-turns.ensures.searched), c.turn-turns.ensures.labelled_2.0)

pub returns : goal.returns
returns c =
    let e : c.loop-turns.turns ≡ 0 = omega arith in
    rw e at c.loop-turns.invariant.0.2
