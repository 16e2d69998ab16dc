-- `enabling::keeps_all`: the answers to the goals that the check leaves.
use mathlib.Core.Path.{refl, sym, ◌∙◌}
use mathlib.Core.List.{List}
use Prim.Native.Nat.{ℕ}
use native.Mathlib.Omega.{arith}
use Rattle.net.specs.Net.{has_bond}
use Rattle.net.specs.declared.Bond.{Bond}
use Rattle.format.specs.Arcs.{in_count, nth_in_bond, arcs_in}
use Rattle.format.proofs.Loops.{all-on, all_left, all_end}
use Rattle.enabling.proofs.Line.{line-all}
use Rattle.enabling.proofs.keeps_all.Goals as goal

pub returns-then-in_line : goal.returns-then-in_line
returns-then-in_line c =
    let t = arcs_in c.args.step.now in
    sym (line-all t.in_bonds t.out_bonds (sym c.in_line.ensures ∙ c.if-in_line.true))

pub loop-i-init : goal.loop-i-init
loop-i-init c = refl

pub returns-then-not-is_bond_of : goal.returns-then-not-is_bond_of
returns-then-not-is_bond_of c =
    let step : List ℕ = c.args.step.now in
    all_left (λ (b : Bond). has_bond b (arcs_in step).out_bonds) (nth_in_bond step) (in_count step) c.loop-i.i (omega arith) _ c.in_bond.ensures (sym c.is_bond_of.ensures ∙ c.if-not-is_bond_of.true)

pub loop-i-preserved : goal.loop-i-preserved
loop-i-preserved c =
    let step : List ℕ = c.args.step.now in
    all-on (λ (b : Bond). has_bond b (arcs_in step).out_bonds) (nth_in_bond step) c.loop-i.i c.loop-i.invariant _ c.in_bond.ensures (sym c.is_bond_of.ensures ∙ c.if-not-is_bond_of.false)

pub returns : goal.returns
returns c =
    let step : List ℕ = c.args.step.now in
    all_end (λ (b : Bond). has_bond b (arcs_in step).out_bonds) (nth_in_bond step) (in_count step) c.loop-i.i (omega arith) c.loop-i.invariant
