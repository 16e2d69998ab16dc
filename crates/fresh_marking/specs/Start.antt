-- What reading a sheet's start needs: the start fits into a marking. An accepted sheet's does.
-- Definitions only.
use Rattle.std.specs.Prelude.{List, ℕ, ◌≤◌, length}
use Rattle.net.specs.Limits.{max_bases, max_bonds}
use Rattle.format.specs.Parts.{start_places}
use Rattle.format.specs.NetOf.{start_bond_count}

pub record StartFits (s : List ℕ) : Type 0 where
  pub places : length (start_places s) ≤ max_bases
  pub bonds : start_bond_count s ≤ max_bonds
