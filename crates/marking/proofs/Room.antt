-- Bonds in strict order, of bases that an array holds, fit into a marking.
-- Assumes nothing.
use mathlib.Core.Path.{◌≡◌}
use mathlib.Core.Bool.{true}
use mathlib.Core.List.{List}
use Prim.Native.Nat.{ℕ, ◌*◌, ◌-◌, ◌<◌, ◌≤◌}
use native.Mathlib.Omega.{arith}
use native.Mathlib.Nat.{mul-le-mul}
use lib.ListN.{length}
use Rattle.net.specs.Limits.{max_bases, max_bonds}
use Rattle.net.specs.Sorted.{Ascending}
use Rattle.net.specs.Marking.{Good}
use Rattle.net.specs.declared.Bond.{Bond}
use Rattle.net.proofs.Pairs.{few-pairs}
use Rattle.net.specs.Net.{Marking as NetMarking, Net, same_bond, less_bond, has_bond}

-- bonds in strict order, of n bases, are at most as many as the pairs of N bases
module _ (n N : ℕ) (few : n ≤ N) (bs : List Bond) (order : Ascending same_bond less_bond bs) (range : (b : Bond) → has_bond b bs ≡ true → (b.lo < b.hi) × (b.hi < n)) where
  pub bonds-fit : 2 * length bs ≤ N * (N - 1)
  bonds-fit =
      let a = few-pairs n bs order range in
      let c : n * (n - 1) ≤ N * (N - 1) = mul-le-mul few (omega arith) in
      omega arith

-- the bonds of a good marking fit
pub good-room : (net : Net) → net.bases ≤ max_bases → (s : NetMarking) → Good net s → length s.bonds ≤ max_bonds
good-room net few s G =
    let a : 2 * length s.bonds ≤ max_bases * (max_bases - 1) = bonds-fit net.bases max_bases few s.bonds G.order G.range in
    omega arith
