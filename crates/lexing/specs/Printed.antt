-- Lines of words and numbers as text: items parted by one space, a newline after each line.
-- Definitions only.
use Rattle.std.specs.Prelude.{Bool, false, ◌&&◌, ℕ, List, [], ◌∷◌, ◌++◌, map, ltb, leb, length}
use Rattle.net.specs.Tests.{all}
use Rattle.text.specs.Decimal.{decimal}
use Rattle.text.specs.Joined.{joined}
use Rattle.lexing.specs.Tokens.{Token, word, number, line, end, wrong, letter, too_much}

abbrev pub item_text : Token → List ℕ
item_text (word w) = w
item_text (number n) = decimal n
item_text line = []
item_text end = []
item_text wrong = []

-- the rest of a line behind an item
abbrev pub rest_text : List Token → List ℕ
rest_text [] = []
rest_text (t ∷ ts) = 32 ∷ (item_text t ++ rest_text ts)

abbrev pub line_text : List Token → List ℕ
line_text [] = []
line_text (t ∷ ts) = item_text t ++ rest_text ts

unfoldable pub text_of : List (List Token) → List ℕ
text_of ls = joined (map (λ (l : List Token). line_text l ++ (10 ∷ [])) ls)

-- what can be printed and read again: words of letters, numbers of two bytes
abbrev pub plain : Token → Bool
plain (word w) = ltb 0 (length w) && all letter w
plain (number n) = ltb n too_much
plain line = false
plain end = false
plain wrong = false

-- lines of such items, at most n to a line
abbrev pub plain_line : ℕ → List Token → Bool
plain_line n l = leb (length l) n && all plain l

abbrev pub plain_lines : ℕ → List (List Token) → Bool
plain_lines n ls = all (plain_line n) ls
