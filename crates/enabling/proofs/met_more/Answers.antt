-- `enabling::met_more`: the answers to the goals that the check leaves.
use mathlib.Core.Path.{◌≡◌, sym, ◌∙◌, ap}
use mathlib.Core.Bool.{Bool}
use Prim.Native.Nat.{◌+◌}
use Rattle.net.specs.Tests.{pick}
use Rattle.net.specs.Net.{same_bond}
use Rattle.format.specs.Arcs.{nth_in_bond, nth_out_bond}
use Rattle.enabling.proofs.met_more.Goals as goal
use Rattle.enabling.proofs.met_more.Goals.{After-out_bond-c}

-- what the comparison says
same-is : (c : After-out_bond-c) → same_bond c.in_bond-b.result c.out_bond-c.result
    ≡ same_bond (nth_in_bond c.args.step.now c.args.met) (nth_out_bond c.args.step.now c.args.i)
same-is c = λ j. same_bond (c.in_bond-b.ensures j) (c.out_bond-c.ensures j)

pub returns-then-b-c : goal.returns-then-b-c
returns-then-b-c c = ap (λ (x : Bool). pick x (c.args.met + 1) c.args.met) (sym (sym (same-is (goal.at.returns-then-b-c c).After-out_bond-c) ∙ c.if-b-c.true))

pub returns : goal.returns
returns c = ap (λ (x : Bool). pick x (c.args.met + 1) c.args.met) (sym (sym (same-is (goal.at.returns c).After-out_bond-c) ∙ c.if-b-c.false))
