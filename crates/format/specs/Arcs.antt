-- What a transition's bytes say (01, the sheet: a step): entries, in-couplings, out-couplings, each after its count.
-- Definitions only.
use Rattle.std.specs.Prelude.{ℕ, ◌+◌, ◌*◌, List}
use Rattle.net.specs.Tests.{table}
use Rattle.net.specs.Net.{Arcs}
use Rattle.net.specs.declared.Bond.{Bond}
use Rattle.net.specs.declared.Entry.{Entry}
use Rattle.format.specs.Bytes.{byte_at, entry_width, entry_at, bond_width, bond_at}

abbrev pub entry_count : List ℕ → ℕ
entry_count b = byte_at b 0

abbrev pub nth_entry : List ℕ → ℕ → Entry
nth_entry b i = entry_at b (1 + entry_width * i)

-- where the count of in-couplings stands, and the in-couplings
abbrev pub in_at : List ℕ → ℕ
in_at b = 1 + entry_width * entry_count b

abbrev pub in_count : List ℕ → ℕ
in_count b = byte_at b (in_at b)

abbrev pub nth_in_bond : List ℕ → ℕ → Bond
nth_in_bond b i = bond_at b (in_at b + 1 + bond_width * i)

-- where the count of out-couplings stands, and the out-couplings
abbrev pub out_at : List ℕ → ℕ
out_at b = in_at b + 1 + bond_width * in_count b

abbrev pub out_count : List ℕ → ℕ
out_count b = byte_at b (out_at b)

abbrev pub nth_out_bond : List ℕ → ℕ → Bond
nth_out_bond b i = bond_at b (out_at b + 1 + bond_width * i)

-- the length that the counts give
abbrev pub arcs_width : List ℕ → ℕ
arcs_width b = out_at b + 1 + bond_width * out_count b

abbrev pub arcs_in : List ℕ → Arcs
arcs_in b = record {
  entries = table (entry_count b) (nth_entry b);
  in_bonds = table (in_count b) (nth_in_bond b);
  out_bonds = table (out_count b) (nth_out_bond b);
}
