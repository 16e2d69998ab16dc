-- `spread::spread_at`: what its loops keep.
use mathlib.Core.Path.{◌≡◌}
use Prim.Native.Nat.{◌+◌}
use lib.ListN.{drop}
use Rattle.net.specs.Limits.{max_bases}
use Rattle.words.specs.Sets.{set_of}
use Rattle.firings.specs.Lines.{lines_in}
use Rattle.spread.specs.Depends.{spread, spread_from}
use Rattle.spread.proofs.spread_at.Given as goal

abbrev pub invariant-loop-moved : goal.invariant-loop-moved
invariant-loop-moved l = let ls = lines_in max_bases l.f in
    spread (set_of max_bases l.set) (drop (l.i + 1 + l.moved-index) ls) ≡ spread_from l.i ls
