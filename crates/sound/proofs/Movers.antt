-- The lines that arrays hold, with a flag for each base that a word has room for, and with one for each base of the sheet: alike, and
-- so with one table of last movers (02, T-06). Assumes no more bases than the limit, and moved sets of those bases alone.
use mathlib.Core.Path.{◌≡◌, ap}
use mathlib.Core.Bool.{true, not, ◌||◌}
use mathlib.Core.List.{List}
use Prim.Native.Nat.{ℕ, ◌^◌, ◌<◌, ◌≤◌}
use native.Mathlib.Omega.{arith}
use lib.Dec.{eqb, leb}
use lib.ListN.{get_or}
use Rattle.net.specs.Limits.{max_bases, max_live}
use Rattle.net.specs.Tests.{pick, all, same_list, table}
use Rattle.net.specs.Checks.{clear}
use Rattle.net.specs.Journal.{LiveLine}
use Rattle.net.specs.declared.Key.{Key}
use Rattle.net.proofs.Tests.{and_l, and_r}
use Rattle.format.specs.Parts.{bases_of}
use Rattle.sheet.specs.Checks.{sheet_checks}
use Rattle.sheet.proofs.Accepted.{promised}
use Rattle.words.specs.Sets.{set_of}
use Rattle.words.proofs.Bits.{wide_at}
use Rattle.marking.specs.Form.{in_form}
use Rattle.marking.specs.declared.Marking.{Marking}
use Rattle.firings.specs.Form.{used_in_form}
use Rattle.firings.specs.Lines.{lying, firing_at, as_line, lines_in}
use Rattle.firings.specs.declared.Firings.{Firings}
use Rattle.movers.specs.Lamp.{last_movers, key_at_all, marked, given_back}
use Rattle.firings.proofs.Lines.{SameLines, same-table, wide-line}
use Rattle.movers.proofs.Alike.{last-alike, movers-alike}
use Rattle.sound.specs.Soundness.{formed, sound_in, runs_in, movers_fit, Passed}
use Rattle.sound.proofs.Tests.{low-sets}
use Rattle.sound.proofs.Holds.{few}

-- ---- one set

module _ (n w : ℕ) (few : n ≤ max_bases) (low : w < 2 ^ n) where
  -- marked by a set as a word
  pub marked-set : (k : ℕ) (t : List ℕ) → marked max_bases (set_of max_bases w) k t ≡ marked max_bases (set_of n w) k t
  marked-set k t = λ i. table max_bases (λ p. pick (wide_at max_bases n w p few low i) k (get_or t p 0))

  -- what a lamp looks at
  pub top_set : (k : ℕ) (t : List ℕ) → key_at_all max_bases t (set_of max_bases w) k ≡ key_at_all max_bases t (set_of n w) k
  top_set k t = λ i. all (λ (p : ℕ). not (wide_at max_bases n w p few low i) || eqb (get_or t p 0) k) (table max_bases (λ p. p))

-- ---- all live firings

-- the first k lines, each with N flags
abbrev pub firsts : Firings → ℕ → ℕ → List LiveLine
firsts f N k = lines_in N (lying k f.transitions f.keys f.moved)

module _ (n : ℕ) (f : Firings) (few : n ≤ max_bases) (low : (i : ℕ) → i < f.live → get_or f.moved i 0 < 2 ^ n) where
  pub lines-alike : (k : ℕ) → k ≤ f.live → SameLines (firsts f max_bases k) (firsts f n k)
  lines-alike k h = same-table k (λ i. as_line max_bases (firing_at f.transitions f.keys f.moved i)) (λ i. as_line n (firing_at f.transitions f.keys f.moved i))
      (λ i u. wide-line max_bases n f few i (low i (omega arith)))

  -- given back from the firing at i down
  pub back-set : (i : ℕ) → i < f.live → (t : List ℕ)
      → given_back max_bases (firsts f max_bases i) (set_of max_bases (get_or f.moved i 0)) t ≡ given_back max_bases (firsts f n i) (set_of n (get_or f.moved i 0)) t
  back-set i h t = λ j. table max_bases (λ p. pick (wide_at max_bases n (get_or f.moved i 0) p few (low i h) j)
      (last-alike p (firsts f max_bases i) (firsts f n i) (lines-alike i (let l : i ≤ f.live = omega arith in l)) j) (get_or t p 0))

-- ---- soundness

-- where the firings run forward, a table is compared with that of the lines, whatever flags their sets have
pub fit_is : (s : List ℕ) (m : Marking) (f : Firings) (t : List ℕ) → clear (sheet_checks s) ≡ true → runs_in s m f ≡ true → same_list eqb t (last_movers max_bases (lines_in max_bases f)) ≡ movers_fit (bases_of s) f t
unfolding runs_in
fit_is s m f t a h =
    let n : ℕ = bases_of s in
    let used : used_in_form n f ≡ true = and_l (used_in_form n f) _ (and_r (leb f.live max_live) _ (and_r (in_form n m) _ (and_l (formed n m f) _ h))) in
    ap (same_list eqb t) (movers-alike max_bases (lines_in max_bases f) (lines_in n f) (lines-alike n f (promised s a).bases.1 (low-sets n f used) f.live (let l : f.live ≤ f.live = omega arith in l)))

-- the moved sets of a record that passes are of the sheet's bases alone
pub sets-low : (s : List ℕ) (m : Marking) (f : Firings) (g : Key) → Passed s m f g → (i : ℕ) → i < f.live → get_or f.moved i 0 < 2 ^ bases_of s
unfolding sound_in
sets-low s m f g P =
    let n : ℕ = bases_of s in
    low-sets n f (and_l (used_in_form n f) _ (and_r (leb f.live max_live) _ (and_r (in_form n m) _ (and_l (formed n m f) _ P.sound))))

-- the lines of a record that passes, whatever flags their sets have
pub held-alike : (s : List ℕ) (m : Marking) (f : Firings) (g : Key) → Passed s m f g → SameLines (lines_in max_bases f) (lines_in (bases_of s) f)
held-alike s m f g P = lines-alike (bases_of s) f (few s m f g P) (sets-low s m f g P) f.live (let l : f.live ≤ f.live = omega arith in l)
