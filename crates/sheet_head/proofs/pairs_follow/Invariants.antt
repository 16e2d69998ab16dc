-- `sheet_head::pairs_follow`: what its loops keep.
use Rattle.sheet_head.specs.Conditions.{follow, parts_begin}
use Rattle.format.specs.Parts.{pairs_of}
use mathlib.Core.Path.{◌≡◌}
use Prim.Native.Nat.{◌+◌, ◌-◌, ◌*◌, ◌≤◌}
use Rattle.sheet_head.proofs.pairs_follow.Given as goal

abbrev pub invariant-loop-k : goal.invariant-loop-k
invariant-loop-k l = record {
  at_most : l.at ≤ 65536 * (l.k + 1);
  rest : follow l.sheet (parts_begin l.sheet) 0 (pairs_of l.sheet) ≡ follow l.sheet l.at l.k (l.pairs - l.k);
}
