-- `runs::run_on`: what its loop keeps.
-- the labels are those of the bonds, and all is as after the first i commands; what was held at the start is sound
use Rattle.std.proofs.Common.{◌≡◌, length}
use Rattle.labels.specs.Labelled.{Labelled}
use Rattle.marking.specs.Form.{bonds_of}
use Rattle.runs.proofs.Turns.{Upto}
use Rattle.runs.proofs.run_on.Given as goal

abbrev pub invariant-loop-i : goal.invariant-loop-i
invariant-loop-i l =
    (length l.words ≡ length l.initial.words) × (length l.values ≡ length l.initial.values)
    × Labelled l.labels.of l.labels.members (bonds_of l.held.marking)
    × Upto l.sheet l.fn.before l.commands l.initial.counts l.initial.words l.initial.values l.i l.held l.counts l.words l.values
