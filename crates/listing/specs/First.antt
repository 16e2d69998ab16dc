-- The listing of live firings (02, T-09): among the reorderings that keep the order of firings with a common part, the step numbers of
-- the one that is first, compared number by number. As it is asked for, and as it is computed. Definitions only.
use Rattle.std.specs.Prelude.{◌≡◌, ◌⊎◌, Bool, not, ◌&&◌, List, [], ◌∷◌, ◌++◌, ℕ, zero, suc, ◌-◌, ◌<◌, ltb, length, get_or, take, drop}
use Rattle.causal.specs.Reorderings.{Reordering, Swapped}
use Rattle.net.specs.Tests.{pick}
use Rattle.net.specs.Firing.{in_set}
use Rattle.net.specs.Journal.{LiveLine, no_line, common}
use Rattle.words.specs.Sets.{either}
use Rattle.firings.specs.Lines.{steps_of}

-- ---- As it is asked for

-- the first list is not after the second, compared number by number
abbrev pub NotAfter : List ℕ → List ℕ → Type 0
NotAfter [] ys = Unit {0}
NotAfter (x ∷ xs) [] = ⊥
NotAfter (x ∷ xs) (y ∷ ys) = (x < y) ⊎ ((x ≡ y) × NotAfter xs ys)

-- ns are the step numbers of a reordering of the lines, and those of no reordering come before them.
pub record FirstOf (ls : List LiveLine) (ns : List ℕ) : Type 0 where
  pub order : List LiveLine
  pub reordering : Reordering in_set ls order
  pub steps : ns ≡ steps_of order
  pub first : (ms : List LiveLine) → Reordering in_set ls ms → NotAfter ns (steps_of ms)

-- Serials apart: the same steps with the same moved bases, one by one.
abbrev pub SerialsApart : List LiveLine → List LiveLine → Type 0
SerialsApart [] [] = Unit {0}
SerialsApart [] (k ∷ ks) = ⊥
SerialsApart (l ∷ ls) [] = ⊥
SerialsApart (l ∷ ls) (k ∷ ks) = (l.transition ≡ k.transition) × (l.moved ≡ k.moved) × SerialsApart ls ks

-- The lines ls can be turned into ms, serials apart: by swapping neighbours that moved no common base they become lines that are ms
-- but for their serials.
pub record TurnsInto (ls ms : List LiveLine) : Type 0 where
  pub turned : List LiveLine
  pub by : Swapped in_set ls turned
  pub apart : SerialsApart turned ms

-- ---- As it is computed: time and again the line of least step among those that share no base with a line before them

abbrev pub step_at : List LiveLine → ℕ → ℕ
step_at ls i = (get_or ls i no_line).transition.0

-- the bases that the first i lines moved
abbrev pub seen_to : List LiveLine → ℕ → List Bool
seen_to ls zero = []
seen_to ls (suc i) = either (seen_to ls i) (get_or ls i no_line).moved

-- where that line stands, of the first i + 1 lines
abbrev pub least_to : List LiveLine → ℕ → ℕ
least_to ls zero = 0
least_to ls (suc i) =
    pick (not (common (seen_to ls (suc i)) (get_or ls (suc i) no_line).moved) && ltb (step_at ls (suc i)) (step_at ls (least_to ls i))) (suc i) (least_to ls i)

-- of all lines
abbrev pub next_at : List LiveLine → ℕ
next_at ls = least_to ls (length ls - 1)

-- the lines without the one at i
abbrev pub without_at : ℕ → List LiveLine → List LiveLine
without_at i ls = take i ls ++ drop (suc i) ls

-- n lines in that order
abbrev pub ordered : ℕ → List LiveLine → List LiveLine
ordered zero ls = []
ordered (suc n) ls = get_or ls (next_at ls) no_line ∷ ordered n (without_at (next_at ls) ls)

abbrev pub listing : List LiveLine → List ℕ
listing ls = steps_of (ordered (length ls) ls)
