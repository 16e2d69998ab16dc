-- `bonds::rank`: what its loops keep, and by what they end.
use mathlib.Core.Path.{◌≡◌}
use mathlib.Core.Bool.{true, false}
use Prim.Native.Nat.{ℕ, ◌+◌, ◌<◌, ◌≤◌}
use Rattle.net.specs.Net.{less_bond}
use Rattle.bonds.specs.Ends.{ends}
use Rattle.bonds.proofs.rank.Given as goal

abbrev pub invariant-loop-n : goal.invariant-loop-n
invariant-loop-n l =
    (l.from + l.n ≤ l.count) × ((i : ℕ) → i < l.from → less_bond (ends l.lo l.hi i) l.b ≡ true) × ((i : ℕ) → l.from + l.n ≤ i → i < l.count → less_bond (ends l.lo l.hi i) l.b ≡ false)

abbrev pub decreases-loop-n : goal.decreases-loop-n
decreases-loop-n l = l.n
