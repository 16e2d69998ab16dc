-- `labels::bases_in`: what its loop keeps.
use Rattle.std.proofs.Common.{ℕ, ◌<◌, ◌≤◌, get_or}
use Rattle.net.specs.Limits.{max_bases}
use Rattle.labels.proofs.bases_in.Given as goal

abbrev pub invariant-loop-k : goal.invariant-loop-k
invariant-loop-k l = (l.top < max_bases) × ((j : ℕ) → j < l.k → (get_or l.m.lo j 0 ≤ l.top) × (get_or l.m.hi j 0 ≤ l.top))
