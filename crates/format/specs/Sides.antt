-- The two sides of a transition's couplings, told apart by a test: false for in-couplings, true for out-couplings. So what is said of
-- both is said once. Definitions only.
use Rattle.std.specs.Prelude.{Bool, true, false, List, ℕ}
use Rattle.net.specs.Tests.{table}
use Rattle.net.specs.declared.Bond.{Bond}
use Rattle.format.specs.Arcs.{in_count, nth_in_bond, out_count, nth_out_bond}

abbrev pub bond_count : List ℕ → Bool → ℕ
bond_count b true = out_count b
bond_count b false = in_count b

abbrev pub nth_bond : List ℕ → Bool → ℕ → Bond
nth_bond b true i = nth_out_bond b i
nth_bond b false i = nth_in_bond b i

abbrev pub side_bonds : List ℕ → Bool → List Bond
side_bonds b out = table (bond_count b out) (nth_bond b out)
