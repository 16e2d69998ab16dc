-- Document 01's whole example as bytes: the input of sheet A's session, and what it prints.
-- Definitions only.
use Rattle.std.specs.Prelude.{ℕ, List, [], ◌∷◌, ◌++◌}
use Rattle.text.specs.Ascii.{ascii}
use Rattle.sheet.specs.Samples.{sheet_a}

-- the length of sheet A, the sheet, six commands
abbrev pub input_a : List ℕ
input_a =
    40 ∷ 0 ∷ []
    ++ sheet_a
    ++ (1 ∷ 0 ∷ 0 ∷ 1 ∷ 1 ∷ 0 ∷ 3 ∷ 1 ∷ 0 ∷ 1 ∷ 0 ∷ 0 ∷ 3 ∷ 1 ∷ 0 ∷ 2 ∷ 0 ∷ 0 ∷ [])

-- `1 fired 1`, `2 fired 2`, `3 undone 1`, `4 fired 3`, `5 refused 19`, `6 undone 3`, `places 0 0 1`, `live 2`, `tally 3 2 1`
abbrev pub output_a : List ℕ
output_a = ascii "1 fired 1\n2 fired 2\n3 undone 1\n4 fired 3\n5 refused 19\n6 undone 3\nplaces 0 0 1\nlive 2\ntally 3 2 1\n"
