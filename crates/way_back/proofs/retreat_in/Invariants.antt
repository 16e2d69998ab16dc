-- `way_back::retreat_in`: what its loop keeps, and by what it ends.
-- what was lent passes, the layout has a byte for each base, and the search has come as far as m and f with n turns to come
use Rattle.std.proofs.Common.{◌≡◌, List, ℕ, length}
use Rattle.net.specs.declared.Key.{Key}
use Rattle.format.specs.Parts.{bases_of}
use Rattle.labels.specs.Labelled.{Labelled}
use Rattle.marking.specs.Form.{bonds_of}
use Rattle.marking.specs.declared.Marking.{Marking}
use Rattle.firings.specs.declared.Firings.{Firings}
use Rattle.sound.specs.Soundness.{Passed}
use Rattle.way_back.specs.Search.{Searched}
use Rattle.way_back.proofs.retreat_in.Given as goal

abbrev pub Come : List ℕ → List ℕ → Marking → Firings → Marking → Firings → ℕ → Type 0
Come s w m₀ f₀ m f n = ((k : Key) × Passed s m₀ f₀ k) × (length w ≡ bases_of s) × Searched s w m₀ f₀ f₀.live m f n

abbrev pub invariant-loop-turns : goal.invariant-loop-turns
invariant-loop-turns l = Come l.sheet l.layout l.initial.m l.initial.f l.m l.f l.turns × Labelled l.labels.of l.labels.members (bonds_of l.m)

abbrev pub decreases-loop-turns : goal.decreases-loop-turns
decreases-loop-turns l = l.turns
