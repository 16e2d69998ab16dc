-- Laws of `table`, the list f 0, .., f (n - 1): reading it, and one element more, as a loop over an index adds it.
-- Assumes nothing.
use mathlib.Core.Path.{◌≡◌, refl, sym, ◌∙◌, ap}
use mathlib.Core.Bool.{Bool, ◌&&◌, ◌||◌, and-true, or-false}
use mathlib.Core.List.{List, [], ◌∷◌, ◌++◌, foldl, foldl-append}
use Prim.Native.Nat.{ℕ, zero, suc, ◌+◌, ◌<◌, ◌≤◌}
use native.Mathlib.Omega.{arith}
use native.Mathlib.Numerals.{add-one}
use native.Mathlib.Nat.{le_of_suc-le-suc, not-suc-le-zero}
use lib.Dec.{ltb}
use lib.ListN.{length, get_or, get_or-eq_default}
use borrow.Author.Tests.{ltb-true, ltb-false}
use Rattle.causal.proofs.Tests.{test}
use Rattle.net.specs.Tests.{all, any, table}
use Rattle.net.proofs.Tests.{all_append, any_append}

module _ {X : Type 0} where
  pub length-table : (n : ℕ) (f : ℕ → X) → length (table n f) ≡ n
  length-table zero f = refl
  length-table (suc n) f = ap suc (length-table n (λ k. f (suc k)))

  pub get_d-table : (n : ℕ) (f : ℕ → X) (p : ℕ) (d : X) → p < n → get_or (table n f) p d ≡ f p
  get_d-table zero f p d h = absurd (not-suc-le-zero h)
  get_d-table (suc n) f zero d h = refl
  get_d-table (suc n) f (suc p) d h = get_d-table n (λ k. f (suc k)) p d (le_of_suc-le-suc h)

  -- where f is d from n on, the list is f all through
  pub get_d-table-all : (n : ℕ) (f : ℕ → X) (d : X) (p : ℕ) → (n ≤ p → f p ≡ d) → get_or (table n f) p d ≡ f p
  get_d-table-all n f d p h = test (ltb p n) (λ e. get_d-table n f p d (ltb-true p n e)) (λ e.
      get_or-eq_default (table n f) d (rw length-table (ltb-false p n e)) ∙ sym (h (ltb-false p n e)))

  -- a table is known by what f is below n
  pub table-cong : (n : ℕ) (f g : ℕ → X) → ((p : ℕ) → p < n → f p ≡ g p) → table n f ≡ table n g
  table-cong zero f g h = refl
  table-cong (suc n) f g h =
      let q : table n (λ k. f (suc k)) ≡ table n (λ k. g (suc k)) = table-cong n (λ k. f (suc k)) (λ k. g (suc k)) (λ p k. h (suc p) (omega arith)) in
      λ i. h zero (omega arith) i ∷ q i

  -- a list is the table of its elements
  pub table-list : (l : List X) (d : X) → table (length l) (λ i. get_or l i d) ≡ l
  table-list [] d = refl
  table-list (x ∷ xs) d = λ i. x ∷ table-list xs d i

  -- a list of n elements that is f at each place
  pub list-table : (n : ℕ) (f : ℕ → X) (l : List X) (d : X) → length l ≡ n → ((p : ℕ) → p < n → get_or l p d ≡ f p) → l ≡ table n f
  list-table n f l d s h = sym (table-list l d) ∙ ap (λ (k : ℕ). table k (λ i. get_or l i d)) s ∙ table-cong n (λ i. get_or l i d) f h

  pub table-snoc : (n : ℕ) (f : ℕ → X) → table (suc n) f ≡ table n f ++ (f n ∷ [])
  table-snoc zero f = refl
  table-snoc (suc n) f = λ i. f zero ∷ table-snoc n (λ k. f (suc k)) i

  pub table_more : (n : ℕ) (f : ℕ → X) → table (n + 1) f ≡ table n f ++ (f n ∷ [])
  table_more n f = ap (λ (k : ℕ). table k f) (add-one n) ∙ table-snoc n f

  pub all_more : (t : X → Bool) (n : ℕ) (f : ℕ → X) → all t (table (n + 1) f) ≡ (all t (table n f) && t (f n))
  all_more t n f = ap (all t) (table_more n f) ∙ all_append t (table n f) (f n ∷ []) ∙ ap (λ (b : Bool). all t (table n f) && b) (and-true (t (f n)))

  pub any-more : (t : X → Bool) (n : ℕ) (f : ℕ → X) → any t (table (n + 1) f) ≡ (any t (table n f) || t (f n))
  any-more t n f = ap (any t) (table_more n f) ∙ any_append t (table n f) (f n ∷ []) ∙ ap (λ (b : Bool). any t (table n f) || b) (or-false (t (f n)))

module _ {X Y : Type 0} where
  pub foldl-more : (step : Y → X → Y) (y : Y) (n : ℕ) (f : ℕ → X) → foldl step y (table (n + 1) f) ≡ step (foldl step y (table n f)) (f n)
  foldl-more step y n f = ap (foldl step y) (table_more n f) ∙ foldl-append step y (table n f) (f n ∷ [])
