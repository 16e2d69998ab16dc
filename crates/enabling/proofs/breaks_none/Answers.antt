-- `enabling::breaks_none`: the answers to the goals that the check leaves.
use mathlib.Core.Path.{sym, ◌∙◌, ap}
use Prim.Native.Nat.{ℕ}
use Rattle.net.specs.Tests.{all, table}
use Rattle.net.specs.Net.{has_bond}
use Rattle.net.specs.declared.Bond.{Bond}
use Rattle.format.specs.Arcs.{nth_in_bond, arcs_in}
use Rattle.enabling.proofs.breaks_none.Goals as goal

pub returns-then-in_count-eq0 : goal.returns-then-in_count-eq0
returns-then-in_count-eq0 c =
    let step = c.args.step.now in
    ap (λ (n : ℕ). all (λ (b : Bond). has_bond b (arcs_in step).out_bonds) (table n (nth_in_bond step))) (sym (sym c.in_count.ensures ∙ c.if-in_count-eq0.true))

pub returns : goal.returns
returns c = c.keeps_all.ensures
