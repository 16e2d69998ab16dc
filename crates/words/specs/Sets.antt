-- A set of bases as a machine word: base p is in it where bit p is set (01, the record: the moved parts of a firing).
-- Definitions only. A set is a list of flags, one for each base.
use Rattle.std.specs.Prelude.{Bool, true, not, ◌&&◌, ◌||◌, List, [], ◌∷◌, ℕ, zero, suc, ◌+◌, ◌*◌, ◌/◌, ◌%◌, eqb}
use Rattle.net.specs.Tests.{pick, count}

-- the set of the first n bits of a word, the lowest bit first
unfoldable pub set_of : ℕ → ℕ → List Bool
set_of zero w = []
set_of (suc n) w = eqb (w % 2) 1 ∷ set_of n (w / 2)

-- the word of a set
unfoldable pub packed : List Bool → ℕ
packed [] = 0
packed (b ∷ l) = packed l * 2 + pick b 1 0

-- what is in one set or the other
abbrev pub either : List Bool → List Bool → List Bool
either [] n = n
either (a ∷ m) [] = a ∷ m
either (a ∷ m) (b ∷ n) = (a || b) ∷ either m n

-- what is in both sets
abbrev pub meet : List Bool → List Bool → List Bool
meet [] n = []
meet (a ∷ m) [] = []
meet (a ∷ m) (b ∷ n) = (a && b) ∷ meet m n

-- what is in the first set and not in the other
abbrev pub minus : List Bool → List Bool → List Bool
minus [] n = []
minus (a ∷ m) [] = a ∷ m
minus (a ∷ m) (b ∷ n) = (a && not b) ∷ minus m n

-- every base of one set is in the other
abbrev pub inside : List Bool → List Bool → Bool
inside [] n = true
inside (a ∷ m) [] = not a && inside m []
inside (a ∷ m) (b ∷ n) = (not a || b) && inside m n

-- how many bases are in a set
abbrev pub size_of : List Bool → ℕ
size_of m = count (λ b. b) m
