-- The net that a sheet's bytes describe (01, the sheet).
-- Definitions only.
use Rattle.std.specs.Prelude.{ℕ, ◌*◌, ◌/◌, List, length}
use Rattle.net.specs.Tests.{table}
use Rattle.net.specs.Net.{Marking, Net}
use Rattle.net.specs.Journal.{transition}
use Rattle.net.specs.declared.Bond.{Bond}
use Rattle.format.specs.Bytes.{bond_width, bond_at}
use Rattle.format.specs.Parts.{places_of, bases_of, transitions_of, start_places, start_bonds, transition_bytes}
use Rattle.format.specs.Arcs.{arcs_in}

-- start couplings: as many as their bytes hold
abbrev pub start_bond_count : List ℕ → ℕ
start_bond_count s = length (start_bonds s) / bond_width

abbrev pub nth_start_bond : List ℕ → ℕ → Bond
nth_start_bond s i = bond_at (start_bonds s) (bond_width * i)

abbrev pub start_marking : List ℕ → Marking
start_marking s = record { places = start_places s; bonds = table (start_bond_count s) (nth_start_bond s) }

unfoldable pub net_of : List ℕ → Net
net_of s = record {
  places = places_of s;
  bases = bases_of s;
  transitions = table (transitions_of s) (λ k. arcs_in (transition_bytes s (transition k)));
  start = start_marking s;
}
