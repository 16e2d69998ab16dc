-- `enabling::keeps_all`: what its loop keeps.
use mathlib.Core.Path.{◌≡◌}
use mathlib.Core.Bool.{true}
use Prim.Native.Nat.{◌-◌}
use Rattle.net.specs.Tests.{all, table}
use Rattle.net.specs.Net.{has_bond}
use Rattle.net.specs.declared.Bond.{Bond}
use Rattle.format.specs.Arcs.{nth_in_bond, arcs_in}
use Rattle.enabling.proofs.keeps_all.Given as goal

abbrev pub invariant-loop-i : goal.invariant-loop-i
invariant-loop-i l =
    all (λ (b : Bond). has_bond b (arcs_in l.step).out_bonds) (table l.i (nth_in_bond l.step)) ≡ true
