-- `listing::next_at`: what its loops keep.
use mathlib.Core.Path.{◌≡◌}
use Prim.Native.Nat.{◌-◌, ◌<◌}
use Rattle.net.specs.Limits.{max_bases}
use Rattle.words.specs.Sets.{set_of}
use Rattle.firings.specs.Lines.{lines_in}
use Rattle.listing.specs.First.{seen_to, least_to}
use Rattle.listing.proofs.next_at.Given as goal

abbrev pub invariant-loop-i : goal.invariant-loop-i
invariant-loop-i l = let ls = lines_in max_bases l.f in
    (l.best < l.i) × (set_of max_bases l.seen ≡ seen_to ls l.i) × (l.best ≡ least_to ls (l.i - 1))
