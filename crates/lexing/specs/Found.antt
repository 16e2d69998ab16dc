-- What the code's answers stand for: where a run of letters ends, and the piece of a text that is its next item.
-- Definitions only.
use Rattle.std.specs.Prelude.{◌≡◌, Bool, ℕ, ◌≤◌, List, length, drop}
use Rattle.std.proofs.Math.Seq.{slice}
use Rattle.lexing.specs.Tokens.{Token, word, number, line, end, wrong, letter, digit, blank, in_line, past, Next}
use Rattle.lexing.specs.declared.Kind.{Kind}
use Rattle.lexing.specs.declared.Kind.TheVariants.{Word, Number, Line, End, Wrong}
use Rattle.lexing.specs.declared.Class.{Class}
use Rattle.lexing.specs.declared.Class.TheVariants.{Blank, Letter, Digit, InLine}
use Rattle.lexing.specs.declared.Piece.{Piece}

abbrev pub passes : Class → ℕ → Bool
passes Blank c = blank c
passes Letter c = letter c
passes Digit c = digit c
passes InLine c = in_line c

-- the letters of a class that stand from `at` on end at r
pub record Reaches (s : List ℕ) (at : ℕ) (class : Class) (r : ℕ) : Type 0 where
  pub rest : drop r s ≡ past (passes class) (drop at s)
  pub from : at ≤ r
  pub to : r ≤ length s

-- the word or number that stands in s from one position to another
abbrev pub token_of : List ℕ → ℕ → ℕ → Kind → Token
token_of s from to Word = word (slice from to s)
token_of s from to (Number n) = number n
token_of s from to Line = line
token_of s from to End = end
token_of s from to Wrong = wrong

-- the piece of s is what was to be found
pub record Stands (s : List ℕ) (p : Piece) (n : Next) : Type 0 where
  pub token : token_of s p.from p.to p.kind ≡ n.token
  pub rest : drop p.to s ≡ n.rest
  pub order : p.from ≤ p.to
  pub within : p.to ≤ length s
