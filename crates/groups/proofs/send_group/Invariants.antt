-- `groups::send_group`: what its loop keeps.
use mathlib.Core.Path.{◌≡◌}
use mathlib.Core.List.{◌++◌}
use lib.ListN.{get_or, drop}
use lib.Dec.{eqb}
use Rattle.net.specs.Tests.{pick, table}
use Rattle.labels.specs.Labelled.{label_in}
use Rattle.groups.proofs.send_group.Given as goal

abbrev pub invariant-loop-p : goal.invariant-loop-p
invariant-loop-p l =
    l.places ≡ table l.p (λ q. pick (eqb l.x (label_in l.l q)) l.to (get_or l.initial.places q 0)) ++ drop l.p l.initial.places
