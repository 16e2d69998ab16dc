-- `fresh_marking::start_ends`: what its loop keeps.
use mathlib.Core.Path.{◌≡◌}
use mathlib.Core.List.{◌++◌}
use Prim.Native.Nat.{◌≤◌}
use lib.ListN.{replicate, length, drop}
use Rattle.net.specs.Limits.{max_bonds}
use Rattle.net.specs.Tests.{table}
use Rattle.format.specs.NetOf.{start_bond_count, nth_start_bond}
use Rattle.fresh_marking.proofs.start_ends.Given as goal

abbrev pub invariant-loop-i : goal.invariant-loop-i
invariant-loop-i l = (l.count ≡ start_bond_count l.sheet) × (l.i ≤ l.count) × (l.initial.lo ≡ replicate max_bonds 0) × (length l.initial.lo ≡ max_bonds) ×
    (l.initial.hi ≡ replicate max_bonds 0) × (length l.initial.hi ≡ max_bonds)
    × (l.lo ≡ table l.i (λ j. (nth_start_bond l.sheet j).lo) ++ drop l.i l.initial.lo) × (l.hi ≡ table l.i (λ j. (nth_start_bond l.sheet j).hi) ++ drop l.i l.initial.hi)
