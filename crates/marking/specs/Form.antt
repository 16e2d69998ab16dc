-- A marking as the struct that holds it (01, the record: places, couplings in ascending order, unused entries 0).
-- Definitions only. n is the number of bases.
use Rattle.std.specs.Prelude.{◌≡◌, Bool, ◌&&◌, List, ◌++◌, map, ℕ, ◌-◌, ◌≤◌, eqb, leb, length, take, drop, replicate}
use Rattle.net.specs.Limits.{max_bases, max_bonds}
use Rattle.net.specs.Tests.{all}
use Rattle.net.specs.Sorted.{Ascending}
use Rattle.net.specs.declared.Bond.{Bond}
use Rattle.net.specs.Net.{Marking as NetMarking, same_bond, less_bond}
use Rattle.bonds.specs.Ends.{bonds_in}
use Rattle.marking.specs.declared.Marking.{Marking}

module _ {X : Type 0} where
  -- a list with d after it, n elements in all
  abbrev pub padWith : X → ℕ → List X → List X
  padWith d n l = l ++ replicate (n - length l) d

-- with zeros after it
abbrev pub padded : ℕ → List ℕ → List ℕ
padded n l = padWith 0 n l

-- the first and the second ends
abbrev pub los : List Bond → List ℕ
los bs = map (λ (b : Bond). b.lo) bs

abbrev pub his : List Bond → List ℕ
his bs = map (λ (b : Bond). b.hi) bs

abbrev pub bonds_of : Marking → List Bond
bonds_of m = bonds_in m.lo m.hi m.count

-- the marking that the struct holds
abbrev pub marking_of : ℕ → Marking → NetMarking
marking_of n m = record { places = take n m.places; bonds = bonds_of m }

-- the struct with other bonds
abbrev pub with_bonds : Marking → List Bond → Marking
with_bonds m bs = record { places = m.places; count = length bs; lo = padded max_bonds (los bs); hi = padded max_bonds (his bs) }

-- The bonds fit, are in strict order, and unused entries are 0: what is needed to put a bond in or take one out.
pub record InOrder (m : Marking) : Type 0 where
  pub room : m.count ≤ max_bonds
  pub form : m ≡ with_bonds m (bonds_of m)
  pub order : Ascending same_bond less_bond (bonds_of m)

-- the struct that holds a marking, every unused entry 0
abbrev pub laid : NetMarking → Marking
laid s = record {
  places = padded max_bases s.places;
  count = length s.bonds;
  lo = padded max_bonds (los s.bonds);
  hi = padded max_bonds (his s.bonds);
}

-- nothing but zeros from k on
abbrev pub zero_from : ℕ → List ℕ → Bool
zero_from k l = all (λ (x : ℕ). eqb x 0) (drop k l)

-- The form: the bonds fit, and unused entries are 0.
abbrev pub in_form : ℕ → Marking → Bool
in_form n m = leb m.count max_bonds && (zero_from m.count m.lo && (zero_from m.count m.hi && zero_from n m.places))
