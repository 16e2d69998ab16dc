-- `enabling::kept_labels`: what its loop keeps.
use mathlib.Core.Bool.{not}
use Rattle.net.specs.Tests.{keep}
use Rattle.net.specs.Firing.{broken_bond}
use Rattle.net.specs.declared.Bond.{Bond}
use Rattle.format.specs.Arcs.{arcs_in}
use Rattle.bonds.specs.Ends.{bonds_in}
use Rattle.labels.specs.Labelled.{Labelled}
use Rattle.enabling.proofs.kept_labels.Given as goal

abbrev pub invariant-loop-i : goal.invariant-loop-i
invariant-loop-i l =
    Labelled l.labels.of l.labels.members (keep (λ (b : Bond). not (broken_bond (arcs_in l.step) b)) (bonds_in l.m.lo l.m.hi l.i))
