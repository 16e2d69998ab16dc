-- `sheet_draft::counts::count_of`: what its loop keeps.
use Rattle.std.proofs.Common.{◌≡◌, ◌≤◌, take}
use Rattle.sheet_draft.specs.Bytes.{count_of}
use Rattle.sheet_draft.proofs.counts.count_of.Given as goal

abbrev pub invariant-loop-x : goal.invariant-loop-x
invariant-loop-x l = (l.n ≤ l.x-index) × (l.n ≡ count_of l.tag (take l.x-index l.acts))
