-- A text as words and numbers: words are of small letters, numbers are decimal, blanks part them, a newline ends a line,
-- `#` begins a comment that goes to the end of its line, and a hyphen may stand directly between two numbers.
-- Definitions only.
use Rattle.std.specs.Prelude.{Bool, true, false, not, ◌&&◌, ◌||◌, ℕ, zero, suc, ◌+◌, ◌*◌, ◌-◌, min, eqb, leb, drop}
use mathlib.Core.List.{List, [], ◌∷◌, foldl}
use Rattle.net.specs.Tests.{pick}

pub data Token : Type 0 where
  word : List ℕ → Token
  number : ℕ → Token
  line : Token
  end : Token
  wrong : Token

-- ---- letters

abbrev pub letter : ℕ → Bool
letter c = leb 97 c && leb c 122

abbrev pub digit : ℕ → Bool
digit c = leb 48 c && leb c 57

-- all up to the space but the newline: a tab, a carriage return
abbrev pub blank : ℕ → Bool
blank c = leb c 32 && not (eqb c 10)

abbrev pub in_line : ℕ → Bool
in_line c = not (eqb c 10)

-- ---- the longest beginning of which each letter passes, and what follows it

abbrev pub front : (ℕ → Bool) → List ℕ → List ℕ
front f [] = []
front f (c ∷ s) = pick (f c) (c ∷ front f s) []

abbrev pub past : (ℕ → Bool) → List ℕ → List ℕ
past f [] = []
past f (c ∷ s) = pick (f c) (past f s) (c ∷ s)

-- ---- the value of digits, cut at 65,536: a number of two bytes is below it

abbrev pub too_much : ℕ
too_much = 65536

abbrev pub more : ℕ → ℕ → ℕ
more v c = min too_much (10 * v + (c - 48))

abbrev pub value : List ℕ → ℕ
value ds = foldl more 0 ds

-- ---- what may follow an item

-- the end of the text, a blank, a newline, a comment
abbrev pub ends : List ℕ → Bool
ends [] = true
ends (c ∷ s) = leb c 32 || eqb c 35

abbrev pub on_digit : List ℕ → Bool
on_digit [] = false
on_digit (c ∷ s) = digit c

-- behind a number also a hyphen with a digit behind it: `2-3` is read as `2 3`
abbrev pub joins : List ℕ → Bool
joins [] = false
joins (c ∷ s) = eqb c 45 && on_digit s

-- ---- the next of a text

pub record Next : Type 0 where
  pub token : Token
  pub rest : List ℕ

abbrev pub next' : Token → List ℕ → Next
next' t s = record { token = t; rest = s }

-- a word and what follows it
abbrev pub worded : List ℕ → List ℕ → Next
worded w s = pick (ends s) (next' (word w) s) (next' wrong s)

-- a number and what follows it; a hyphen that joins two numbers goes with the first
abbrev pub numbered : ℕ → List ℕ → Next
numbered n s = pick (ends s) (next' (number n) s) (pick (joins s) (next' (number n) (drop 1 s)) (next' wrong s))

-- behind a comment
abbrev pub ended : List ℕ → Next
ended [] = next' end []
ended (c ∷ s) = next' line s

-- behind the blanks
abbrev pub begins : List ℕ → Next
begins [] = next' end []
begins (c ∷ s) =
    pick (letter c) (worded (front letter (c ∷ s)) (past letter (c ∷ s)))
    (pick (digit c) (numbered (value (front digit (c ∷ s))) (past digit (c ∷ s)))
    (pick (eqb c 10) (next' line s)
    (pick (eqb c 35) (ended (past in_line s))
    (next' wrong s))))

unfoldable pub next_of : List ℕ → Next
next_of s = begins (past blank s)

-- ---- the lines of a text, without their newlines; the last is what follows the last newline

abbrev pub on_first : ℕ → List (List ℕ) → List (List ℕ)
on_first c [] = (c ∷ []) ∷ []
on_first c (l ∷ ls) = (c ∷ l) ∷ ls

unfoldable pub lines_of : List ℕ → List (List ℕ)
lines_of [] = [] ∷ []
lines_of (c ∷ s) = let ls : List (List ℕ) = lines_of s in pick (eqb c 10) ([] ∷ ls) (on_first c ls)

-- ---- the words and numbers of a line, at most n

abbrev pub closes : Token → Bool
closes (word w) = false
closes (number n) = false
closes line = true
closes end = true
closes wrong = false

abbrev pub row : ℕ → List ℕ → List Token
row zero s = []
row (suc n) s = pick (closes (next_of s).token) [] ((next_of s).token ∷ row n (next_of s).rest)
