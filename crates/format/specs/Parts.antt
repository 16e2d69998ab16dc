-- The header of a sheet, and the parts of it that its pairs name (01, the sheet).
-- Definitions only.
use Rattle.std.specs.Prelude.{ℕ, ◌+◌, ◌*◌, List, [], leb, ltb, length, take, drop}
use Rattle.net.specs.Tests.{pick}
use Rattle.net.specs.declared.Transition.{Transition}
use Rattle.format.specs.Bytes.{byte_at, word_at, header_width, pair_width, leading_pairs}

abbrev pub version_of : List ℕ → ℕ
version_of s = byte_at s 0

abbrev pub places_of : List ℕ → ℕ
places_of s = byte_at s 1

abbrev pub bases_of : List ℕ → ℕ
bases_of s = byte_at s 2

abbrev pub transitions_of : List ℕ → ℕ
transitions_of s = byte_at s 3

abbrev pub pairs_of : List ℕ → ℕ
pairs_of s = transitions_of s + leading_pairs

-- the offset and the length that pair k gives
abbrev pub offset_of : List ℕ → ℕ → ℕ
offset_of s k = word_at s (header_width + pair_width * k)

abbrev pub length_of : List ℕ → ℕ → ℕ
length_of s k = word_at s (header_width + pair_width * k + 2)

-- The part of the sheet that pair k names; the empty one where it does not lie in the sheet.
unfoldable pub part_of : List ℕ → ℕ → List ℕ
part_of s k = pick (leb (offset_of s k + length_of s k) (length s)) (take (length_of s k) (drop (offset_of s k) s)) []

-- Pair 0: the start places. Pair 1: the start couplings.
abbrev pub start_places : List ℕ → List ℕ
start_places s = part_of s 0

abbrev pub start_bonds : List ℕ → List ℕ
start_bonds s = part_of s 1

-- The bytes of a transition (01: the record of a step, a stretch of the sheet itself); none where the sheet has no such
-- number.
unfoldable pub transition_bytes : List ℕ → Transition → List ℕ
transition_bytes s t = pick (ltb t.0 (transitions_of s)) (part_of s (t.0 + leading_pairs)) []
