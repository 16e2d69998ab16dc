-- The lines that live firings are: each read where it lies, and with sets of more flags than the net has bases.
-- Assumes nothing.
use mathlib.Core.Path.{◌≡◌, refl, sym, ◌∙◌, ap}
use mathlib.Core.Bool.{Bool, true, ◌||◌}
use mathlib.Core.List.{List, [], ◌∷◌}
use Prim.Native.Nat.{ℕ, zero, suc, ◌^◌, ◌<◌, ◌≤◌}
use native.Mathlib.Omega.{arith}
use lib.ListN.{length, get_or}
use Rattle.net.specs.Limits.{max_bases}
use Rattle.net.specs.Tests.{table}
use Rattle.net.specs.Firing.{in_set}
use Rattle.net.specs.Journal.{LiveLine, no_line, common}
use Rattle.net.proofs.Tests.{same_test}
use Rattle.net.proofs.Tables.{length-table, get_d-table}
use Rattle.net.proofs.Keys.{common-i, common-e}
use Rattle.words.specs.Sets.{set_of, either}
use Rattle.words.proofs.Bits.{either-at, wide_at}
use Rattle.firings.specs.Lines.{lying, firing_at, as_line, lines_in}
use Rattle.firings.specs.declared.Firings.{Firings}

-- the lines that lie in lent arrays, with a flag for each base that a sheet can have
abbrev pub lines : ℕ → List ℕ → List ℕ → List ℕ → List LiveLine
lines live ts keys ms = lines_in max_bases (lying live ts keys ms)

-- ---- one by one

module _ (n : ℕ) (f : Firings) where
  abbrev pub line_at : ℕ → LiveLine
  line_at i = as_line n (firing_at f.transitions f.keys f.moved i)

  pub lines-length : length (lines_in n f) ≡ f.live
  lines-length = length-table f.live line_at

  pub line-at : (i : ℕ) → i < f.live → get_or (lines_in n f) i no_line ≡ line_at i
  line-at i h = get_d-table f.live line_at i no_line h

  pub moved_at : (i : ℕ) → i < f.live → (get_or (lines_in n f) i no_line).moved ≡ set_of n (get_or f.moved i 0)
  moved_at i h = ap (λ (l : LiveLine). l.moved) (line-at i h)

-- ---- the same bases, in lists of other lengths

abbrev pub Alike : List Bool → List Bool → Type 0
Alike a b = (p : ℕ) → in_set a p ≡ in_set b p

pub common-alike : (a b m n : List Bool) → Alike a b → Alike m n → common a m ≡ common b n
common-alike a b m n h k = same_test (common a m) (common b n) (one a b m n h k) (one b a n m (λ p. sym (h p)) (λ p. sym (k p)))
  where
    one : (a b m n : List Bool) → Alike a b → Alike m n → common a m ≡ true → common b n ≡ true
    one a b m n h k c = let (p, x, y) = common-e a m c in common-i b n p (sym (h p) ∙ x) (sym (k p) ∙ y)

pub either-alike : (a b m n : List Bool) → Alike a b → Alike m n → Alike (either a m) (either b n)
either-alike a b m n h k p = either-at a m p ∙ (λ i. h p i || k p i) ∙ sym (either-at b n p)

-- lines that differ in no more than how many flags their sets have
pub record SameLine (l k : LiveLine) : Type 0 where
  pub transition : l.transition ≡ k.transition
  pub key : l.key ≡ k.key
  pub moved : Alike l.moved k.moved

pub same_line : (l : LiveLine) → SameLine l l
same_line l = record { transition = refl; key = refl; moved = λ p. refl }

-- one by one
abbrev pub SameLines : List LiveLine → List LiveLine → Type 0
SameLines [] [] = Unit {0}
SameLines [] (k ∷ ks) = ⊥
SameLines (l ∷ ls) [] = ⊥
SameLines (l ∷ ls) (k ∷ ks) = SameLine l k × SameLines ls ks

pub same-table : (n : ℕ) (f g : ℕ → LiveLine) → ((i : ℕ) → i < n → SameLine (f i) (g i)) → SameLines (table n f) (table n g)
same-table zero f g h = tt
same-table (suc n) f g h = (h zero (omega arith), same-table n (λ i. f (suc i)) (λ i. g (suc i)) (λ i u. h (suc i) (omega arith)))

pub same_length : (ls ks : List LiveLine) → SameLines ls ks → length ls ≡ length ks
same_length [] [] h = refl
same_length [] (k ∷ ks) h = absurd h
same_length (l ∷ ls) [] h = absurd h
same_length (l ∷ ls) (k ∷ ks) h = ap suc (same_length ls ks h.1)

pub same_at : (ls ks : List LiveLine) → SameLines ls ks → (i : ℕ) → SameLine (get_or ls i no_line) (get_or ks i no_line)
same_at [] [] h i = same_line no_line
same_at [] (k ∷ ks) h i = absurd h
same_at (l ∷ ls) [] h i = absurd h
same_at (l ∷ ls) (k ∷ ks) h zero = h.0
same_at (l ∷ ls) (k ∷ ks) h (suc i) = same_at ls ks h.1 i

-- a firing of bases below n, as a line with N flags and with n
pub wide-line : (N n : ℕ) (f : Firings) → n ≤ N → (i : ℕ) → get_or f.moved i 0 < 2 ^ n → SameLine (line_at N f i) (line_at n f i)
wide-line N n f few i low = record { transition = refl; key = refl; moved = λ p. wide_at N n (get_or f.moved i 0) p few low }
