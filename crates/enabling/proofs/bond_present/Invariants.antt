-- `enabling::bond_present`: what its loop keeps.
use mathlib.Core.Path.{◌≡◌}
use mathlib.Core.Bool.{not, ◌&&◌}
use Prim.Native.Nat.{◌-◌}
use Rattle.net.specs.Tests.{any, table}
use Rattle.net.specs.Net.{has_bond}
use Rattle.net.specs.declared.Bond.{Bond}
use Rattle.format.specs.Arcs.{nth_out_bond, arcs_in}
use Rattle.marking.specs.Form.{bonds_of}
use Rattle.enabling.proofs.bond_present.Given as goal

abbrev pub invariant-loop-i : goal.invariant-loop-i
invariant-loop-i l = l.found ≡ any (λ (b : Bond). not (has_bond b (arcs_in l.step).in_bonds) && has_bond b (bonds_of l.m)) (table l.i (nth_out_bond l.step))
