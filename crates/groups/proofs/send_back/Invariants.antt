-- `groups::send_back`: what its loop keeps.
-- the base is in the set
use mathlib.Core.Path.{◌≡◌}
use mathlib.Core.Bool.{Bool, true, false}
use Prim.Native.Nat.{ℕ}
use lib.ListN.{get_or}
use Rattle.net.specs.Limits.{max_bases}
use Rattle.format.specs.Arcs.{entry_count, nth_entry}
use Rattle.words.specs.Sets.{set_of}
use Rattle.labels.specs.Labelled.{label_in}
use Rattle.groups.specs.Groups.{side}
use Rattle.groups.proofs.Sending.{sentFrom}
use Rattle.groups.proofs.send_back.Given as goal

abbrev pub may : ℕ → ℕ → Bool
may moved p = get_or (set_of max_bases moved) p false

abbrev pub invariant-loop-i : goal.invariant-loop-i
invariant-loop-i l =
    l.places ≡ sentFrom max_bases (entry_count l.step) (may l.moved) (side true) (label_in l.labels.of) (nth_entry l.step) l.initial.places l.i
