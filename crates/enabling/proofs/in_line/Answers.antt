-- `enabling::in_line`: the answers to the goals that the check leaves.
-- one turn meets no more than there are
use mathlib.Core.Path.{◌≡◌, refl, sym, ◌∙◌, ap}
use mathlib.Core.List.{List}
use Prim.Native.Nat.{ℕ, ◌+◌, ◌<◌, ◌≤◌}
use native.Mathlib.Omega.{arith}
use borrow.Author.Rules.{rules}
use borrow.Author.Tests.{ltb-true}
use lib.Dec.{eqb, ltb}
use mathlib.Core.Bool.{Bool, true, false, ◌&&◌}
use Rattle.net.specs.Tests.{pick}
use Rattle.net.specs.Net.{same_bond}
use Rattle.net.proofs.Tests.{and_l, and_r}
use Rattle.format.specs.Arcs.{in_count, nth_in_bond, out_count, nth_out_bond}
use Rattle.enabling.proofs.Line.{onward, line-more, line-end}
use Rattle.enabling.proofs.in_line.Goals as goal
use Rattle.enabling.proofs.in_line.Goals.{In-loop-met}

step-low : (x : Bool) (a r k : ℕ) → a < k → r ≡ pick x (a + 1) a → r ≤ k
step-low true a r k h e = omega arith
step-low false a r k h e = omega arith

-- what the test of the loop says
some_in : (c : In-loop-met) → c.loop-met.met < c.in_count-ins.result
some_in c = ltb-true c.loop-met.met c.in_count-ins.result (and_l (ltb c.loop-met.met c.in_count-ins.result) (ltb c.loop-met.i c.out_count-outs.result) c.loop-met-test.true)

some_out : (c : In-loop-met) → c.loop-met.i < c.out_count-outs.result
some_out c = ltb-true c.loop-met.i c.out_count-outs.result (and_r (ltb c.loop-met.met c.in_count-ins.result) (ltb c.loop-met.i c.out_count-outs.result) c.loop-met-test.true)

pub loop-met-init : goal.loop-met-init
loop-met-init c = (search rules, search rules, search rules, search rules, refl)

pub met_more-met-requires : goal.met_more-met-requires
met_more-met-requires c = search (rules, some_in c)

pub overflow_add-i : goal.overflow_add-i
overflow_add-i c = search (rules, some_out (goal.at.overflow_add-i c).In-loop-met)

pub loop-met-smaller : goal.loop-met-smaller
loop-met-smaller c = search (rules, some_out (goal.at.loop-met-smaller c).In-loop-met)

pub loop-met-preserved : goal.loop-met-preserved
loop-met-preserved c =
    let step : List ℕ = c.args.step.now in
    let u = some_in (goal.at.loop-met-preserved c).In-loop-met in
    let v = some_out (goal.at.loop-met-preserved c).In-loop-met in (
      search rules,
      search rules,
      step-low (same_bond (nth_in_bond step c.loop-met.met) (nth_out_bond step c.loop-met.i)) _ _ _ u c.met_more-met.ensures,
      search (rules, v),
      c.loop-met.invariant.4 ∙ line-more (in_count step) (out_count step) (nth_in_bond step) (nth_out_bond step) c.loop-met.met c.loop-met.i (omega arith) (omega arith)
          ∙ ap (λ (a : ℕ). onward (in_count step) (out_count step) (nth_in_bond step) (nth_out_bond step) a (c.loop-met.i + 1)) (sym c.met_more-met.ensures),
    )

pub returns : goal.returns
returns c =
    let step : List ℕ = c.args.step.now in
    let k = c.loop-met.invariant.0 in
    let n = c.loop-met.invariant.1 in
    ap (eqb c.loop-met.met) k
    ∙ line-end (in_count step) (out_count step) (nth_in_bond step) (nth_out_bond step) c.loop-met.met c.loop-met.i (omega arith) (omega arith)
    ((λ j. ltb c.loop-met.met (sym k j) && ltb c.loop-met.i (sym n j)) ∙ c.loop-met-test.false) ∙ sym c.loop-met.invariant.4
