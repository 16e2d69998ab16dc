-- The conditions under which a sheet is turned away before its transitions are looked at (01, the turned-away list, 1 to 6).
-- Definitions only. Each is a test of the bytes that passes where the sheet is refused; their order is the crate sheet's.
use Rattle.std.specs.Prelude.{ℕ, zero, suc, ◌+◌, ◌*◌, ◌%◌, Bool, not, ◌&&◌, ◌||◌, List, eqb, ltb, length}
use Rattle.net.specs.Limits.{max_sheet, max_places, max_bases, max_transitions}
use Rattle.net.specs.Rules.{start_places_rule, start_bonds_rule}
use Rattle.format.specs.Bytes.{outside, header_width, pair_width, bond_width}
use Rattle.format.specs.Parts.{version_of, places_of, bases_of, transitions_of, pairs_of, offset_of, length_of, start_places, start_bonds}
use Rattle.format.specs.NetOf.{start_marking}

-- 1: the bytes are too few for a header, or more than a sheet may have.
unfoldable pub wrong_size : List ℕ → Bool
wrong_size s = ltb (length s) header_width || ltb max_sheet (length s)

-- 2: the version is another than 1.
unfoldable pub wrong_version : List ℕ → Bool
wrong_version s = not (eqb (version_of s) 1)

-- 3: there are no places, bases or transitions, or more than may be.
unfoldable pub wrong_counts : List ℕ → Bool
wrong_counts s = outside (places_of s) max_places || (outside (bases_of s) max_bases || outside (transitions_of s) max_transitions)

-- where the first part begins: behind the pairs
abbrev pub parts_begin : List ℕ → ℕ
parts_begin s = header_width + pair_width * pairs_of s

-- The offset rule, for n pairs from pair k on: its offset is `at`, the next pair's is `at` and its length, and so on; the last part
-- ends where the sheet ends. Sums are of whole numbers.
abbrev pub follow : List ℕ → ℕ → ℕ → ℕ → Bool
follow s at k zero = eqb at (length s)
follow s at k (suc n) = eqb (offset_of s k) at && follow s (at + length_of s k) (k + 1) n

-- 4: the sheet ends before its pairs do, or the pairs break the offset rule.
unfoldable pub wrong_pairs : List ℕ → Bool
wrong_pairs s = ltb (length s) (parts_begin s) || not (follow s (parts_begin s) 0 (pairs_of s))

-- 5: the start places are not one for each base, or one of them is no place of the net.
unfoldable pub wrong_start_places : List ℕ → Bool
wrong_start_places s = not (start_places_rule (places_of s) (bases_of s) (start_places s))

-- 6: the start couplings end inside one of them, or break their rule.
unfoldable pub wrong_start_bonds : List ℕ → Bool
wrong_start_bonds s = not (eqb (length (start_bonds s) % bond_width) 0) || not (start_bonds_rule (bases_of s) (start_marking s))
