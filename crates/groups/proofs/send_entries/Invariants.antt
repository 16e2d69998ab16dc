-- `groups::send_entries`: what its loop keeps.
use mathlib.Core.Path.{◌≡◌}
use mathlib.Core.Bool.{true, false}
use Rattle.net.specs.Limits.{max_bases}
use Rattle.format.specs.Arcs.{entry_count, nth_entry}
use Rattle.labels.specs.Labelled.{label_in}
use Rattle.groups.specs.Groups.{side}
use Rattle.groups.proofs.Sending.{sentFrom}
use Rattle.groups.proofs.send_entries.Given as goal

abbrev pub invariant-loop-i : goal.invariant-loop-i
invariant-loop-i l =
    l.places ≡ sentFrom max_bases (entry_count l.step) (λ p. true) (side false) (label_in l.l) (nth_entry l.step) l.initial.places l.i
