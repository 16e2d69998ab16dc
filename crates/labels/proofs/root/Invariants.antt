-- `labels::root`: what its loops keep, and by what they end.
use mathlib.Core.Path.{◌≡◌}
use Prim.Native.Nat.{ℕ, ◌<◌, ◌≤◌}
use lib.ListN.{get_or}
use Rattle.net.specs.Limits.{max_bases}
use Rattle.labels.specs.Forest.{Forest}
use Rattle.labels.proofs.root.Given as goal

abbrev pub invariant-loop-up : goal.invariant-loop-up
invariant-loop-up l = (l.x ≤ l.p) × (l.p < max_bases) × (l.up ≡ get_or l.l l.x 0) × ((f : ℕ → ℕ) → Forest max_bases l.l f → f l.x ≡ f l.p)

abbrev pub decreases-loop-up : goal.decreases-loop-up
decreases-loop-up l = l.x
