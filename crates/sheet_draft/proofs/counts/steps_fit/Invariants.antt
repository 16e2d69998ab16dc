-- `sheet_draft::counts::steps_fit`: what its loop keeps.
use Rattle.std.proofs.Common.{◌≡◌, true}
use Rattle.net.specs.Tests.{all, table}
use Rattle.sheet_draft.specs.Bytes.{step_fits}
use Rattle.sheet_draft.proofs.counts.steps_fit.Given as goal

abbrev pub invariant-loop-k : goal.invariant-loop-k
invariant-loop-k l = all (step_fits l.acts) (table l.k (λ i. i)) ≡ true
