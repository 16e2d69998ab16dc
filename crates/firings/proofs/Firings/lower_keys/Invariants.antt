-- `firings::Firings::lower_keys`: what its loops keep.
use mathlib.Core.Path.{◌≡◌}
use Prim.Native.Nat.{◌≤◌}
use lib.Dec.{ltb}
use Rattle.net.specs.Tests.{count}
use Rattle.firings.specs.Search.{keys_in}
use Rattle.firings.proofs.Firings.lower_keys.Given as goal

abbrev pub invariant-loop-k : goal.invariant-loop-k
invariant-loop-k l = (l.n ≤ l.k-index) × (l.n ≡ count (λ x. ltb x l.key.0) (keys_in l.k-index l.self.keys))
