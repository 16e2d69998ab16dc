-- `listing::list_steps`: what its loops keep.
use mathlib.Core.Path.{◌≡◌}
use mathlib.Core.List.{◌++◌}
use Prim.Native.Nat.{◌-◌}
use lib.ListN.{drop}
use Rattle.net.specs.Limits.{max_bases}
use Rattle.net.specs.Tests.{table}
use Rattle.net.specs.Journal.{transition}
use Rattle.firings.specs.Lines.{lines_in}
use Rattle.listing.specs.First.{step_at, ordered}
use Rattle.listing.proofs.list_steps.Given as goal

abbrev pub invariant-loop-n : goal.invariant-loop-n
invariant-loop-n l = let os = ordered l.count (lines_in max_bases l.initial.f) in
    (l.f.live ≡ l.count - l.n) × (drop l.n os ≡ ordered l.f.live (lines_in max_bases l.f)) × (l.steps ≡ table l.n (λ x. transition (step_at os x)) ++ drop l.n l.initial.steps)
