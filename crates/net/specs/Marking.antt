-- What is true of a marking at every point of a session (01, firing and taking back, the last paragraph).
-- Definitions only.
use Rattle.std.specs.Prelude.{◌≡◌, true, ℕ, ◌<◌, length}
use Rattle.net.specs.Sorted.{Ascending}
use Rattle.net.specs.Net.{Marking, Net, same_bond, less_bond, has_bond, written, place}
use Rattle.net.specs.declared.Bond.{Bond}

-- Each base is in one place of the net; the bonds are in strict order and of bases of the net; bonded bases share a place;
-- every bond is written on the sheet (02, T-10).
pub record Good (net : Net) (s : Marking) : Type 0 where
  pub size : length s.places ≡ net.bases
  pub within : (p : ℕ) → p < net.bases → place s p < net.places
  pub order : Ascending same_bond less_bond s.bonds
  pub range : (b : Bond) → has_bond b s.bonds ≡ true → (b.lo < b.hi) × (b.hi < net.bases)
  pub share : (b : Bond) → has_bond b s.bonds ≡ true → place s b.lo ≡ place s b.hi
  pub listed : (b : Bond) → has_bond b s.bonds ≡ true → has_bond b (written net) ≡ true
