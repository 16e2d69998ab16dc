-- The loop over the lines after the one at i: it goes on, leaves and ends; and lines with sets of more flags, none of them set.
-- Assumes nothing.
use mathlib.Core.Path.{◌≡◌, refl, sym, ap, ◌∙◌}
use mathlib.Core.Bool.{Bool, true, false, ◌&&◌}
use mathlib.Core.List.{List}
use Prim.Native.Nat.{ℕ, zero, suc, ◌+◌, ◌<◌, ◌≤◌}
use native.Mathlib.Omega.{arith}
use native.Mathlib.Numerals.{add-one}
use lib.ListN.{length, get_or, drop, drop_of_length-le}
use lib.Seq.{drop-cons}
use Rattle.net.specs.Limits.{max_bases}
use Rattle.net.specs.Tests.{pick, table, first_at}
use Rattle.net.specs.Journal.{LiveLine, no_line, common}
use Rattle.net.proofs.Tables.{get_d-table}
use Rattle.net.proofs.Firsts.{first_cong}
use Rattle.words.specs.Sets.{set_of}
use Rattle.firings.specs.Lines.{lying}
use Rattle.firings.proofs.Lines.{lines, lines-length, moved_at, Alike, common-alike, SameLine}
use Rattle.reasons.specs.Reasons.{built_after, in_both, later_at, common_at}

-- ---- the first of a list from j on

module _ {X : Type 0} (f : X → Bool) (l : List X) (d : X) where
  at-cons : (j : ℕ) → j < length l → (b : Bool) → f (get_or l j d) ≡ b → first_at f (drop j l) ≡ pick b 0 (suc (first_at f (drop (suc j) l)))
  at-cons j h b e = ap (first_at f) (drop-cons l j d h) ∙ ap (λ (c : Bool). pick c 0 (suc (first_at f (drop (suc j) l)))) e

  from-here : (j r : ℕ) → j < length l → r ≡ j + first_at f (drop j l) → f (get_or l j d) ≡ true → j ≡ r
  from-here j r h e t = let a = at-cons j h true t in omega arith

  from_on : (j r : ℕ) → j < length l → r ≡ j + first_at f (drop j l) → f (get_or l j d) ≡ false → r ≡ j + 1 + first_at f (drop (j + 1) l)
  from_on j r h e t =
      let a = at-cons j h false t in
      let b : first_at f (drop (j + 1) l) ≡ first_at f (drop (suc j) l) = ap (λ (k : ℕ). first_at f (drop k l)) (add-one j) in
      omega arith

  from_end : (j r : ℕ) → length l ≤ j → r ≡ j + first_at f (drop j l) → j ≡ r
  from_end j r h e = let a : first_at f (drop j l) ≡ 0 = ap (first_at f) (drop_of_length-le l h) in omega arith

-- ---- the lines that lie in the arrays

module _ (live : ℕ) (ts keys ms : List ℕ) where
  abbrev ls : List LiveLine
  ls = lines live ts keys ms

  module _ (i : ℕ) where
    -- of those from j on
    abbrev pub from : ℕ → ℕ
    from j = j + first_at (built_after (get_or ls i no_line)) (drop j ls)

    module _ (low : i < live) (j : ℕ) where
      inside : j < live → j < length ls
      inside h = rw (lines-length max_bases (lying live ts keys ms)) h

      -- the code's test of the firing at j
      met : j < live → (b : Bool) → common (set_of max_bases (get_or ms i 0)) (set_of max_bases (get_or ms j 0)) ≡ b → built_after (get_or ls i no_line) (get_or ls j no_line) ≡ b
      met h b e = (λ x. common (moved_at max_bases (lying live ts keys ms) i low x) (moved_at max_bases (lying live ts keys ms) j h x)) ∙ e

      pub later-here : j < live → later_at ls i ≡ from j → common (set_of max_bases (get_or ms i 0)) (set_of max_bases (get_or ms j 0)) ≡ true → j ≡ later_at ls i
      later-here h e t = from-here (built_after (get_or ls i no_line)) ls no_line j (later_at ls i) (inside h) e (met h true t)

      pub later-on : j < live → later_at ls i ≡ from j → common (set_of max_bases (get_or ms i 0)) (set_of max_bases (get_or ms j 0)) ≡ false → later_at ls i ≡ from (j + 1)
      later-on h e t = from_on (built_after (get_or ls i no_line)) ls no_line j (later_at ls i) (inside h) e (met h false t)

      pub later-none : j ≡ live → later_at ls i ≡ from j → live ≡ later_at ls i
      later-none q e = sym q ∙ from_end (built_after (get_or ls i no_line)) ls no_line j (later_at ls i) (rw (lines-length max_bases (lying live ts keys ms)) (omega arith)) e

-- ---- the same bases, in lists of other lengths

pub common-at-alike : (a b m n : List Bool) → Alike a b → Alike m n → common_at a m ≡ common_at b n
common-at-alike a b m n h k = first_cong (in_both a m) (in_both b n) (table max_bases (λ p. p)) (λ p _ x. h p x && k p x)

first-same : {X : Type 0} (p q : X → Bool) (n k : ℕ) (f g : ℕ → X) → ((i : ℕ) → i < n → p (f i) ≡ q (g i)) → first_at p (drop k (table n f)) ≡ first_at q (drop k (table n g))
first-same p q zero zero f g h = refl
first-same p q zero (suc k) f g h = refl
first-same p q (suc n) zero f g h =
    let a = h 0 (omega arith) in
    let b = first-same p q n zero (λ i. f (suc i)) (λ i. g (suc i)) (λ i u. h (suc i) (omega arith)) in
    λ x. pick (a x) 0 (suc (b x))
first-same p q (suc n) (suc k) f g h = first-same p q n k (λ i. f (suc i)) (λ i. g (suc i)) (λ i u. h (suc i) (omega arith))

pub later-alike : (n : ℕ) (f g : ℕ → LiveLine) → ((i : ℕ) → i < n → SameLine (f i) (g i)) → (i : ℕ) → i < n → later_at (table n f) i ≡ later_at (table n g) i
later-alike n f g h i u = ap (λ (k : ℕ). suc i + k) (first-same (built_after (get_or (table n f) i no_line)) (built_after (get_or (table n g) i no_line)) n (suc i) f g (λ j v.
    ap (λ (l : LiveLine). built_after l (f j)) (get_d-table n f i no_line u)
    ∙ common-alike (f i).moved (g i).moved (f j).moved (g j).moved (h i u).moved (h j v).moved
    ∙ ap (λ (l : LiveLine). built_after l (g j)) (sym (get_d-table n g i no_line u))))
