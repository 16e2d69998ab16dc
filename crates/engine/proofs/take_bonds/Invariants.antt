-- `engine::take_bonds`: what its loop keeps.
use mathlib.Core.Path.{◌≡◌}
use mathlib.Core.Bool.{not, ◌&&◌}
use Rattle.net.specs.declared.Bond.{Bond}
use Rattle.net.specs.Net.{has_bond}
use Rattle.net.specs.Tests.{keep, table}
use Rattle.format.specs.Sides.{nth_bond, side_bonds}
use Rattle.marking.specs.Form.{bonds_of, with_bonds}
use Rattle.engine.proofs.take_bonds.Given as goal

abbrev pub invariant-loop-i : goal.invariant-loop-i
invariant-loop-i l = l.m ≡ with_bonds l.initial.m
    (keep (λ (c : Bond). not (has_bond c (table l.i (nth_bond l.step l.out)) && not (has_bond c (side_bonds l.step (not l.out))))) (bonds_of l.initial.m))
