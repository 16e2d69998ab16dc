-- Which live firing stands on top of the last that moved a base (02, T-04): what the way back takes back first.
-- Definitions only. dep l k says of a later line k that it depends directly on l.
use Rattle.std.specs.Prelude.{◌≡◌, Bool, true, false, List, [], ◌∷◌, ℕ, suc, ◌<◌, length, get_or, drop}
use Rattle.net.specs.Tests.{pick, any}
use Rattle.net.specs.Firing.{in_set}
use Rattle.net.specs.Journal.{LiveLine, no_line, common}

-- What depends directly on what (01, refusal 20): a later firing on an earlier one that moved a base which it moved too.
abbrev pub sharing : LiveLine → LiveLine → Bool
sharing l k = common l.moved k.moved

-- some line moved p
abbrev pub moved_in : ℕ → List LiveLine → Bool
moved_in p ls = any (λ (l : LiveLine). in_set l.moved p) ls

-- Going up from l: the line in hand gives way to each later one that depends on it. What is in hand at the end depends, through
-- others, on l, and nothing depends on it.
abbrev pub top_of : (LiveLine → LiveLine → Bool) → LiveLine → List LiveLine → LiveLine
top_of dep l [] = l
top_of dep l (k ∷ ks) = top_of dep (pick (dep l k) k l) ks

-- the same from the last line that moved p; said of lines of which one did
abbrev pub top_at : (LiveLine → LiveLine → Bool) → ℕ → List LiveLine → LiveLine
top_at dep p [] = no_line
top_at dep p (l ∷ ls) = pick (moved_in p ls) (top_at dep p ls) (top_of dep l ls)

-- ---- Places among the lines

-- At i stands the last line that moved p; i is the number of lines where none did.
pub record LastAt (p : ℕ) (ls : List LiveLine) (i : ℕ) : Type 0 where
  pub none : moved_in p ls ≡ false → i ≡ length ls
  pub below : moved_in p ls ≡ true → i < length ls
  pub moves : moved_in p ls ≡ true → in_set (get_or ls i no_line).moved p ≡ true
  pub last : moved_in p (drop (suc i) ls) ≡ false

-- At i stands the top above the last line that moved p; i is the number of lines where none did.
pub record TopPlace (dep : LiveLine → LiveLine → Bool) (p : ℕ) (ls : List LiveLine) (i : ℕ) : Type 0 where
  pub none : moved_in p ls ≡ false → i ≡ length ls
  pub below : moved_in p ls ≡ true → i < length ls
  pub top : moved_in p ls ≡ true → get_or ls i no_line ≡ top_at dep p ls
