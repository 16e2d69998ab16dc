-- `sheet_draft::notes::collect`: what its loops keep, and by what they end.
use Rattle.sheet_draft.proofs.Lines.{Sofar}
use mathlib.Core.Path.{◌≡◌}
use Prim.Native.Nat.{◌+◌, ◌-◌}
use lib.ListN.{length}
use Rattle.sheet_draft.proofs.notes.collect.Given as goal

abbrev pub invariant-loop-at : goal.invariant-loop-at
invariant-loop-at l = (length l.acts ≡ length l.initial.acts) × Sofar l.text l.at l.n l.places l.steps l.size l.acts

abbrev pub decreases-loop-at : goal.decreases-loop-at
decreases-loop-at l = length l.text + 1 - l.at
