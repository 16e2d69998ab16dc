-- `engine::put_bonds`: what its loop keeps.
use mathlib.Core.Path.{◌≡◌}
use lib.ListN.{drop}
use Rattle.net.specs.Net.{same_bond, less_bond}
use Rattle.net.specs.Sorted.{puts}
use Rattle.net.specs.Tests.{keep, table}
use Rattle.format.specs.Arcs.{arcs_in}
use Rattle.format.specs.Sides.{bond_count, nth_bond}
use Rattle.marking.specs.Form.{bonds_of, with_bonds}
use Rattle.engine.specs.Change.{goes_in}
use Rattle.engine.proofs.put_bonds.Given as goal

abbrev pub invariant-loop-i : goal.invariant-loop-i
invariant-loop-i l = l.m ≡ with_bonds l.initial.m
    (puts same_bond less_bond (keep (goes_in (arcs_in l.step) l.out) (drop l.i (table (bond_count l.step l.out) (nth_bond l.step l.out)))) (bonds_of l.initial.m))
