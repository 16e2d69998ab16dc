-- `enabling::is_bond_of`: the answers to the goals that the check leaves.
use mathlib.Core.Path.{refl, sym, ◌∙◌}
use mathlib.Core.List.{List}
use Prim.Native.Nat.{ℕ}
use native.Mathlib.Omega.{arith}
use Rattle.net.specs.Net.{same_bond}
use Rattle.format.specs.Sides.{bond_count, nth_bond, side_bonds}
use Rattle.format.proofs.Loops.{any-on, any_left, any-end, has-any}
use Rattle.enabling.proofs.is_bond_of.Goals as goal

pub loop-i-init : goal.loop-i-init
loop-i-init c = refl

pub returns-then-b-c : goal.returns-then-b-c
returns-then-b-c c =
    let given = c.args in
    let step : List ℕ = given.step.now in
    any_left (same_bond given.b) (nth_bond step given.out) (bond_count step given.out) c.loop-i.i (omega arith) _ c.nth_bond-c.ensures c.if-b-c.true
    ∙ sym (has-any same_bond given.b (side_bonds step given.out))

pub loop-i-preserved : goal.loop-i-preserved
loop-i-preserved c =
    let given = c.args in
    any-on (same_bond given.b) (nth_bond given.step.now given.out) c.loop-i.i c.loop-i.invariant _ c.nth_bond-c.ensures c.if-b-c.false

pub returns : goal.returns
returns c =
    let given = c.args in
    let step : List ℕ = given.step.now in
    any-end (same_bond given.b) (nth_bond step given.out) (bond_count step given.out) c.loop-i.i (omega arith) c.loop-i.invariant ∙ sym (has-any same_bond given.b (side_bonds step given.out))
