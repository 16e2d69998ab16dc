-- `labels::flatten`: what its loop keeps.
use Rattle.std.proofs.Common.{◌≡◌, ℕ, ◌++◌, length, drop}
use Rattle.net.specs.Limits.{max_bases}
use Rattle.net.specs.Tests.{table}
use Rattle.labels.specs.Forest.{Down, Forest}
use Rattle.labels.proofs.flatten.Given as goal

abbrev pub invariant-loop-p : goal.invariant-loop-p
invariant-loop-p l = Down max_bases l.l × ((f : ℕ → ℕ) → Forest max_bases l.initial.l f → l.l ≡ table l.p f ++ drop l.p l.initial.l) × (length l.l ≡ max_bases)
