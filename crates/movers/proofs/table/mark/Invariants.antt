-- `movers::table::mark`: what its loops keep, and by what they end.
use mathlib.Core.Path.{◌≡◌}
use lib.ListN.{length}
use Rattle.net.specs.Limits.{max_bases}
use Rattle.words.specs.Sets.{set_of}
use Rattle.movers.specs.Lamp.{marked}
use Rattle.movers.proofs.table.mark.Given as goal

abbrev pub invariant-loop-left : goal.invariant-loop-left
invariant-loop-left l =
    (length l.table ≡ max_bases) × (marked max_bases (set_of max_bases l.left) l.key.0 l.table ≡ marked max_bases (set_of max_bases l.set) l.key.0 l.initial.table)

abbrev pub decreases-loop-left : goal.decreases-loop-left
decreases-loop-left l = l.left
