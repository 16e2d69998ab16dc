-- Numbers in a list of bytes, and the widths of the format (01, the sheet). Past the end every byte reads as 0.
-- Definitions only. Each width stands here once.
use Rattle.std.specs.Prelude.{ℕ, ◌+◌, ◌*◌, List, Bool, ◌||◌, eqb, ltb, get_or}
use Rattle.net.specs.Net.{bond}
use Rattle.net.specs.declared.Bond.{Bond}
use Rattle.net.specs.declared.Entry.{Entry}

abbrev pub byte_at : List ℕ → ℕ → ℕ
byte_at s at = get_or s at 0

-- a count that is not 1 to max
abbrev pub outside : ℕ → ℕ → Bool
outside n max = eqb n 0 || ltb max n

-- a two-byte number, low byte first
abbrev pub word_at : List ℕ → ℕ → ℕ
word_at s at = byte_at s at + 256 * byte_at s (at + 1)

-- the bytes of a base's number, and the number
abbrev pub base_width : ℕ
base_width = 1

abbrev pub base_at : List ℕ → ℕ → ℕ
base_at s at = byte_at s at

-- an entry: base, in-place, out-place
abbrev pub entry_width : ℕ
entry_width = base_width + 2

abbrev pub entry_at : List ℕ → ℕ → Entry
entry_at s at = record { base = base_at s at; from = byte_at s (at + base_width); to = byte_at s (at + base_width + 1) }

-- a coupling: two bases
abbrev pub bond_width : ℕ
bond_width = base_width + base_width

abbrev pub bond_at : List ℕ → ℕ → Bond
bond_at s at = bond (base_at s at) (base_at s (at + base_width))

-- the header: version, and the counts of places, bases and transitions
abbrev pub header_width : ℕ
header_width = 4

-- a pair: two-byte offset, two-byte length
abbrev pub pair_width : ℕ
pair_width = 4

-- the pairs before those of the transitions: start places, start couplings
abbrev pub leading_pairs : ℕ
leading_pairs = 2
