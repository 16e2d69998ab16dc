-- `labels::set_members`: what its loop keeps.
use Rattle.std.proofs.Common.{◌≡◌, length}
use Rattle.net.specs.Limits.{max_bases}
use Rattle.labels.proofs.Gathering.{Gathered}
use Rattle.labels.proofs.set_members.Given as goal

abbrev pub invariant-loop-p : goal.invariant-loop-p
invariant-loop-p l = (length l.members ≡ max_bases) × Gathered max_bases l.l l.members l.p
