-- `groups::send_some`: what its loop keeps.
use mathlib.Core.Path.{◌≡◌}
use mathlib.Core.Bool.{false, ◌&&◌}
use mathlib.Core.List.{◌++◌}
use lib.Dec.{eqb}
use lib.ListN.{get_or, drop}
use Rattle.net.specs.Limits.{max_bases}
use Rattle.net.specs.Tests.{pick, table}
use Rattle.words.specs.Sets.{set_of}
use Rattle.labels.specs.Labelled.{label_in}
use Rattle.groups.proofs.send_some.Given as goal

abbrev pub invariant-loop-p : goal.invariant-loop-p
invariant-loop-p l =
    l.places ≡ table l.p (λ q. pick (get_or (set_of max_bases l.moved) q false && eqb l.x (label_in l.l q)) l.to (get_or l.initial.places q 0)) ++ drop l.p l.initial.places
