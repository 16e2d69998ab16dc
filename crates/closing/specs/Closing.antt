-- The closing lines (01, the exam program): items are parted by one space, no space stands at an end, and every line ends in
-- a newline. Definitions only.
use Rattle.std.specs.Prelude.{ℕ, List, [], ◌∷◌, ◌++◌, map}
use Rattle.net.specs.declared.Bond.{Bond}
use Rattle.text.specs.Decimal.{decimal}
use Rattle.text.specs.Joined.{joined}
use Rattle.text.specs.Ascii.{ascii}

-- ---- A line of numbers

-- a number, with the space before it
abbrev pub item : ℕ → List ℕ
item n = ascii " " ++ decimal n

abbrev pub items : List ℕ → List ℕ
items ns = joined (map item ns)

-- a word, the numbers, the newline
abbrev pub row : List ℕ → List ℕ → List ℕ
row word ns = word ++ items ns ++ ascii "\n"

-- ---- The lines, in the order in which they are written

-- `places` and every base's place
abbrev pub places_line : List ℕ → List ℕ
places_line ps = row (ascii "places") ps

-- `bond p q`
abbrev pub bond_line : ℕ → ℕ → List ℕ
bond_line p q = row (ascii "bond") (p ∷ q ∷ [])

-- a line for each bond, in the list's order; no line where there is none
abbrev pub bond_lines : List Bond → List ℕ
bond_lines bs = joined (map (λ (b : Bond). bond_line b.lo b.hi) bs)

-- `live` and the live serials; the bare word where none is live
abbrev pub live_line : List ℕ → List ℕ
live_line ks = row (ascii "live") ks

-- `tally` and the counts fired, undone, refused
abbrev pub tally_line : ℕ → ℕ → ℕ → List ℕ
tally_line fired undone refused = row (ascii "tally") (fired ∷ undone ∷ refused ∷ [])

-- ---- Room: what a writer asks of the buffer. A number has at most ten digits.

abbrev pub item_room : ℕ
item_room = 11

abbrev pub bond_room : ℕ
bond_room = 27
