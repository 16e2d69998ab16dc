-- Document 01's sheets A and B as bytes; B is encoded from its description.
-- Definitions only.
use Rattle.std.specs.Prelude.{ℕ, List, [], ◌∷◌}

abbrev pub sheet_a : List ℕ
sheet_a =
    1 ∷ 2 ∷ 3 ∷ 2
    ∷ 20 ∷ 0 ∷ 3 ∷ 0
    ∷ 23 ∷ 0 ∷ 0 ∷ 0
    ∷ 23 ∷ 0 ∷ 11 ∷ 0
    ∷ 34 ∷ 0 ∷ 6 ∷ 0
    ∷ 0 ∷ 0 ∷ 0
    ∷ 2 ∷ 0 ∷ 0 ∷ 1 ∷ 1 ∷ 0 ∷ 1 ∷ 0 ∷ 1 ∷ 0 ∷ 1
    ∷ 1 ∷ 2 ∷ 0 ∷ 1 ∷ 0 ∷ 0
    ∷ []

-- header, pairs, start places, start coupling, transitions 0 to 5
abbrev pub sheet_b : List ℕ
sheet_b =
    1 ∷ 3 ∷ 4 ∷ 6
    ∷ 36 ∷ 0 ∷ 4 ∷ 0
    ∷ 40 ∷ 0 ∷ 2 ∷ 0
    ∷ 42 ∷ 0 ∷ 11 ∷ 0
    ∷ 53 ∷ 0 ∷ 6 ∷ 0
    ∷ 59 ∷ 0 ∷ 6 ∷ 0
    ∷ 65 ∷ 0 ∷ 9 ∷ 0
    ∷ 74 ∷ 0 ∷ 11 ∷ 0
    ∷ 85 ∷ 0 ∷ 13 ∷ 0
    ∷ 0 ∷ 0 ∷ 0 ∷ 0
    ∷ 2 ∷ 3
    ∷ 2 ∷ 0 ∷ 0 ∷ 1 ∷ 2 ∷ 0 ∷ 1 ∷ 0 ∷ 1 ∷ 0 ∷ 2
    ∷ 1 ∷ 3 ∷ 1 ∷ 2 ∷ 0 ∷ 0
    ∷ 1 ∷ 1 ∷ 0 ∷ 0 ∷ 0 ∷ 0
    ∷ 2 ∷ 2 ∷ 0 ∷ 1 ∷ 3 ∷ 0 ∷ 2 ∷ 0 ∷ 0
    ∷ 2 ∷ 2 ∷ 0 ∷ 0 ∷ 3 ∷ 0 ∷ 0 ∷ 0 ∷ 1 ∷ 2 ∷ 3
    ∷ 2 ∷ 0 ∷ 0 ∷ 0 ∷ 1 ∷ 0 ∷ 0 ∷ 1 ∷ 0 ∷ 1 ∷ 1 ∷ 0 ∷ 1
    ∷ []
