-- `labels::rename_in`: what its loop keeps.
use Rattle.std.proofs.Common.{◌≡◌, ◌++◌, get_or, drop}
use Rattle.net.specs.Tests.{table}
use Rattle.labels.specs.Labelled.{renamed}
use Rattle.labels.proofs.rename_in.Given as goal

abbrev pub invariant-loop-x : goal.invariant-loop-x
invariant-loop-x l = l.l ≡ table l.x-index (λ q. renamed l.from l.to (get_or l.initial.l q 0)) ++ drop l.x-index l.initial.l
