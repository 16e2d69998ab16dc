-- `reasons::first_torn`: what its loop keeps.
use Rattle.std.proofs.Common.{◌≡◌, false}
use Rattle.net.specs.Limits.{max_bases}
use Rattle.net.specs.Tests.{any, table}
use Rattle.net.specs.Net.{Marking}
use Rattle.net.specs.Firing.{bonds_seen}
use Rattle.labels.specs.Labelled.{Parted}
use Rattle.format.specs.Arcs.{nth_entry, arcs_in}
use Rattle.reasons.specs.Reasons.{has_partner}
use Rattle.reasons.proofs.first_torn.Given as goal

abbrev pub invariant-loop-i : goal.invariant-loop-i
invariant-loop-i l =
    (s : Marking) → Parted max_bases l.l (bonds_seen (arcs_in l.step) s.bonds) → any (has_partner (arcs_in l.step) s) (table l.i (nth_entry l.step)) ≡ false
