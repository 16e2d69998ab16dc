-- `enabling::is_bond_of`: what its loop keeps.
use mathlib.Core.Path.{◌≡◌}
use mathlib.Core.Bool.{false}
use Prim.Native.Nat.{◌-◌}
use Rattle.net.specs.Net.{same_bond}
use Rattle.net.specs.Tests.{any, table}
use Rattle.format.specs.Sides.{nth_bond}
use Rattle.enabling.proofs.is_bond_of.Given as goal

abbrev pub invariant-loop-i : goal.invariant-loop-i
invariant-loop-i l = any (same_bond l.b) (table l.i (nth_bond l.step l.out)) ≡ false
