-- `page::page`: what its loop keeps.
use mathlib.Core.Path.{◌≡◌}
use mathlib.Core.List.{foldl}
use Prim.Native.Nat.{◌-◌}
use lib.ListN.{take}
use Rattle.page.specs.Rows.{no_rows, with_firing}
use Rattle.page.proofs.page.Given as goal

abbrev pub invariant-loop-f : goal.invariant-loop-f
invariant-loop-f l = l.rows ≡ foldl with_firing no_rows (take l.f-index l.list)
