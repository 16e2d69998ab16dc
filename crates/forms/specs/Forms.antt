-- A form is a line of words and numbers; a line has it where its words are the form's and its numbers at most the form's.
-- Definitions only.
use Rattle.std.specs.Prelude.{Bool, true, false, ◌&&◌, ℕ, ◌≤◌, List, [], ◌∷◌, eqb, leb, length}
use Rattle.net.specs.Tests.{same_list}
use Rattle.lexing.specs.Tokens.{Token, word, number, line, end, wrong}
use Rattle.lexing.specs.declared.Kind.{Kind}
use Rattle.lexing.specs.declared.Kind.TheVariants.{Word, Number, Line, End, Wrong}
use Rattle.lexing.specs.declared.Piece.{Piece}

-- a piece lies in a text
abbrev pub Lies : List ℕ → Piece → Type 0
Lies s p = (p.from ≤ p.to) × (p.to ≤ length s)

-- by kind, as the code looks at a piece: the line ends here
abbrev pub closes_kind : Kind → Bool
closes_kind Word = false
closes_kind (Number n) = false
closes_kind Line = true
closes_kind End = true
closes_kind Wrong = false

-- by kind: a number of at most m
abbrev pub suits_number : ℕ → Kind → Bool
suits_number m Word = false
suits_number m (Number n) = leb n m
suits_number m Line = false
suits_number m End = false
suits_number m Wrong = false

-- an item that is the word w
abbrev pub suits_word : List ℕ → Token → Bool
suits_word w (word v) = same_list eqb w v
suits_word w (number n) = false
suits_word w line = false
suits_word w end = false
suits_word w wrong = false

-- a number of at most m
abbrev pub up_to : ℕ → Token → Bool
up_to m (word w) = false
up_to m (number n) = leb n m
up_to m line = false
up_to m end = false
up_to m wrong = false

-- an item suits an item of a form
abbrev pub suits : Token → Token → Bool
suits (word w) t = suits_word w t
suits (number m) t = up_to m t
suits line t = false
suits end t = false
suits wrong t = false

-- a line has a form
abbrev pub fits : List Token → List Token → Bool
fits [] [] = true
fits [] (t ∷ ts) = false
fits (f ∷ fs) [] = false
fits (f ∷ fs) (t ∷ ts) = suits f t && fits fs ts

-- the numbers of a line
abbrev pub numbers : List Token → List ℕ
numbers [] = []
numbers (word w ∷ ts) = numbers ts
numbers (number n ∷ ts) = n ∷ numbers ts
numbers (line ∷ ts) = numbers ts
numbers (end ∷ ts) = numbers ts
numbers (wrong ∷ ts) = numbers ts

-- by kind: a number, and its value
abbrev pub number_kind : Kind → Bool
number_kind Word = false
number_kind (Number n) = true
number_kind Line = false
number_kind End = false
number_kind Wrong = false

abbrev pub value_kind : Kind → ℕ
value_kind Word = 0
value_kind (Number n) = n
value_kind Line = 0
value_kind End = 0
value_kind Wrong = 0
