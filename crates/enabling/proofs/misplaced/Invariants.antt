-- `enabling::misplaced`: what its loop keeps.
-- the entry's base is not at its in-place
use mathlib.Core.Path.{◌≡◌}
use mathlib.Core.Bool.{Bool, not}
use mathlib.Core.List.{List}
use Prim.Native.Nat.{ℕ, ◌-◌}
use lib.Dec.{eqb}
use lib.ListN.{get_or}
use Rattle.net.specs.Tests.{any, table}
use Rattle.net.specs.declared.Entry.{Entry}
use Rattle.format.specs.Arcs.{nth_entry}
use Rattle.enabling.proofs.misplaced.Given as goal

abbrev pub away : List ℕ → Entry → Bool
away ps e = not (eqb (get_or ps e.base 0) e.from)

abbrev pub invariant-loop-i : goal.invariant-loop-i
invariant-loop-i l = l.found ≡ any (away l.m.places) (table l.i (nth_entry l.step))
