-- `layout::unfit_layout`: what its loop keeps.
-- what is known after the first i bytes
use mathlib.Core.Path.{◌≡◌}
use mathlib.Core.Bool.{Bool, not, ◌||◌}
use mathlib.Core.List.{List}
use Prim.Native.Nat.{ℕ}
use lib.Dec.{eqb}
use lib.ListN.{length, get_or}
use Rattle.net.specs.Tests.{any, table}
use Rattle.layout.specs.Layout.{no_such_place}
use Rattle.layout.proofs.unfit_layout.Given as goal

abbrev pub upto : ℕ → ℕ → List ℕ → ℕ → Bool
upto bases places w i = not (eqb (length w) bases) || any (no_such_place places) (table i (λ k. get_or w k 0))

abbrev pub invariant-loop-wanted : goal.invariant-loop-wanted
invariant-loop-wanted l = l.unfit ≡ upto l.bases l.places l.layout l.wanted-index
