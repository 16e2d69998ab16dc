-- Laws of a loop over the table f 0, .., f (n - 1) that leaves early: with `all`, at the first that fails; with `any`, at
-- the first that passes. One law for each place of the loop: it goes on, it leaves, it ends; x is f i as the code has it.
-- Assumes nothing.
use mathlib.Core.Path.{◌≡◌, refl, sym, ◌∙◌, ap}
use mathlib.Core.Bool.{Bool, true, false, ◌&&◌, ◌||◌}
use mathlib.Core.List.{List, [], ◌∷◌}
use Prim.Native.Nat.{ℕ, zero, suc, ◌+◌, ◌-◌, ◌<◌}
use native.Mathlib.Omega.{arith}
use native.Mathlib.Numerals.{add-one}
use native.Mathlib.Nat.{le_of_suc-le-suc, not-suc-le-zero}
use Rattle.net.specs.Tests.{all, any, table}
use Rattle.net.specs.Sorted.{ascends, has}
use Rattle.net.proofs.Tables.{all_more, any-more, table-cong}

module _ {X : Type 0} where
  pub all-on : (t : X → Bool) (f : ℕ → X) (i : ℕ) → all t (table i f) ≡ true → (x : X) → x ≡ f i → t x ≡ true → all t (table (i + 1) f) ≡ true
  all-on t f i h x e k = all_more t i f ∙ rw (h, ← e, k)

  fails-at : (t : X → Bool) (n : ℕ) (f : ℕ → X) (i : ℕ) → i < n → t (f i) ≡ false → false ≡ all t (table n f)
  fails-at t zero f i h k = absurd (not-suc-le-zero h)
  fails-at t (suc n) f zero h k = rw k
  fails-at t (suc n) f (suc i) h k = go (t (f zero)) (fails-at t n (λ j. f (suc j)) i (le_of_suc-le-suc h) k)
    where
      go : (b : Bool) → false ≡ all t (table n (λ j. f (suc j))) → false ≡ (b && all t (table n (λ j. f (suc j))))
      go true e = e
      go false e = refl

  pub all_left : (t : X → Bool) (f : ℕ → X) (n i : ℕ) → i < n → (x : X) → x ≡ f i → t x ≡ false → false ≡ all t (table n f)
  all_left t f n i h x e k = fails-at t n f i h (ap t (sym e) ∙ k)

  pub all_end : (t : X → Bool) (f : ℕ → X) (n i : ℕ) → i ≡ n → all t (table i f) ≡ true → true ≡ all t (table n f)
  all_end t f n i e h = sym h ∙ ap (λ (k : ℕ). all t (table k f)) e

  pub any-on : (t : X → Bool) (f : ℕ → X) (i : ℕ) → any t (table i f) ≡ false → (x : X) → x ≡ f i → t x ≡ false → any t (table (i + 1) f) ≡ false
  any-on t f i h x e k = any-more t i f ∙ rw (h, ← e, k)

  passes_at : (t : X → Bool) (n : ℕ) (f : ℕ → X) (i : ℕ) → i < n → t (f i) ≡ true → true ≡ any t (table n f)
  passes_at t zero f i h k = absurd (not-suc-le-zero h)
  passes_at t (suc n) f zero h k = rw k
  passes_at t (suc n) f (suc i) h k = go (t (f zero)) (passes_at t n (λ j. f (suc j)) i (le_of_suc-le-suc h) k)
    where
      go : (b : Bool) → true ≡ any t (table n (λ j. f (suc j))) → true ≡ (b || any t (table n (λ j. f (suc j))))
      go true e = refl
      go false e = e

  pub any_left : (t : X → Bool) (f : ℕ → X) (n i : ℕ) → i < n → (x : X) → x ≡ f i → t x ≡ true → true ≡ any t (table n f)
  any_left t f n i h x e k = passes_at t n f i h (ap t (sym e) ∙ k)

  pub any-end : (t : X → Bool) (f : ℕ → X) (n i : ℕ) → i ≡ n → any t (table i f) ≡ false → false ≡ any t (table n f)
  any-end t f n i e h = sym h ∙ ap (λ (k : ℕ). any t (table k f)) e

  -- `has` is `any` of the comparisons
  pub has-any : (eq : X → X → Bool) (x : X) (l : List X) → has eq x l ≡ any (eq x) l
  has-any eq x [] = refl
  has-any eq x (y ∷ ys) = ap (λ (b : Bool). eq x y || b) (has-any eq x ys)

-- ---- order: a table ascends if each element is below the next

abbrev pub self : Bool → Bool
self b = b

abbrev pub below : {X : Type 0} → (X → X → Bool) → (ℕ → X) → ℕ → Bool
below lt f i = lt (f i) (f (i + 1))

module _ {X : Type 0} (lt : X → X → Bool) where
  ascends-from : (n : ℕ) (f : ℕ → X) → ascends lt (table (suc n) f) ≡ all self (table n (λ i. lt (f i) (f (suc i))))
  ascends-from zero f = refl
  ascends-from (suc n) f = ap (λ (b : Bool). lt (f zero) (f (suc zero)) && b) (ascends-from n (λ i. f (suc i)))

  pub ascends-table : (n : ℕ) (f : ℕ → X) → ascends lt (table n f) ≡ all self (table (n - 1) (below lt f))
  ascends-table zero f = refl
  ascends-table (suc n) f =
      let e : n ≡ suc n - 1 = omega arith in
      rw (← e) (ascends-from n f ∙ ap (all self) (table-cong n (λ i. lt (f i) (f (suc i))) (below lt f) (λ i h. ap (λ (k : ℕ). lt (f i) (f k)) (sym (add-one i)))))
