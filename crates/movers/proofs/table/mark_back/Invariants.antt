-- `movers::table::mark_back`: what its loops keep, and by what they end.
use mathlib.Core.Path.{◌≡◌}
use Prim.Native.Nat.{◌≤◌}
use lib.ListN.{length}
use Rattle.net.specs.Limits.{max_bases, max_live}
use Rattle.words.specs.Sets.{set_of}
use Rattle.firings.specs.Lines.{lines_in}
use Rattle.movers.specs.Lamp.{given_back}
use Rattle.movers.proofs.table.mark_back.Given as goal

abbrev pub invariant-loop-i : goal.invariant-loop-i
invariant-loop-i l =
    (l.i ≤ l.n) × (l.n ≤ max_live) × (length l.table ≡ max_bases)
    × (given_back max_bases (lines_in max_bases (record l.f { live = l.i })) (set_of max_bases l.left) l.table ≡ given_back max_bases (lines_in max_bases (record l.f { live = l.n })) (set_of max_bases l.set) l.initial.table)

abbrev pub decreases-loop-i : goal.decreases-loop-i
decreases-loop-i l = l.i
