-- Laws of an ascending table: what is less than an element stands first, and the element, if it is there, right after.
-- Assumes nothing but the order handed in.
use mathlib.Core.Path.{◌≡◌, sym, ◌∙◌, ap}
use mathlib.Core.Logic.{◌⊎◌, inl, inr}
use mathlib.Core.Bool.{Bool, true, false, true≢false}
use Prim.Native.Nat.{ℕ, zero, suc, ◌+◌, ◌<◌, ◌≤◌}
use native.Mathlib.Omega.{arith}
use native.Mathlib.Nat.{le_of_suc-le-suc, not-suc-le-zero}
use lib.Dec.{ltb}
use borrow.Author.Tests.{ltb-true, ltb-false}
use Rattle.causal.proofs.Tests.{test, both}
use Rattle.net.specs.Tests.{count, table}
use Rattle.net.specs.Sorted.{has, Ascending}
use Rattle.net.proofs.Sorted.{Order}
use Rattle.net.proofs.Tests.{or_l, or_r, or-e, fails, same_test}

module _ {X : Type 0} where
  -- the first k pass and no other: k pass
  pub first-pass : (t : X → Bool) (n k : ℕ) (f : ℕ → X) → k ≤ n → ((i : ℕ) → i < k → t (f i) ≡ true) → ((i : ℕ) → k ≤ i → i < n → t (f i) ≡ false) → count t (table n f) ≡ k
  first-pass t zero k f h y z = omega arith
  first-pass t (suc n) zero f h y z =
      let r = first-pass t n zero (λ i. f (suc i)) (omega arith) (λ i q. y (suc i) (absurd (not-suc-le-zero q))) (λ i p q. z (suc i) (omega arith) (omega arith)) in
      rw (z zero (omega arith) (omega arith)) (omega arith)
  first-pass t (suc n) (suc k) f h y z =
      let r = first-pass t n k (λ i. f (suc i)) (le_of_suc-le-suc h) (λ i q. y (suc i) (omega arith)) (λ i p q. z (suc i) (omega arith) (omega arith)) in
      rw (y zero (omega arith)) (omega arith)

module _ {X : Type 0} (eq lt : X → X → Bool) (O : Order eq lt) where
  has-table : (n : ℕ) (f : ℕ → X) (j : ℕ) → j < n → has eq (f j) (table n f) ≡ true
  has-table zero f j h = absurd (not-suc-le-zero h)
  has-table (suc n) f zero h = or_l (eq (f zero) (f zero)) _ (O.eq-same (f zero))
  has-table (suc n) f (suc j) h = or_r (eq (f (suc j)) (f zero)) _ (has-table n (λ i. f (suc i)) j (le_of_suc-le-suc h))

  ascending-at : (n : ℕ) (f : ℕ → X) → Ascending eq lt (table n f) → (i j : ℕ) → i < j → j < n → lt (f i) (f j) ≡ true
  ascending-at zero f A i j h k = absurd (not-suc-le-zero k)
  ascending-at (suc n) f A i zero h k = absurd (not-suc-le-zero h)
  ascending-at (suc n) f A zero (suc j) h k = A.0 (f (suc j)) (has-table n (λ i. f (suc i)) j (le_of_suc-le-suc k))
  ascending-at (suc n) f A (suc i) (suc j) h k = ascending-at n (λ m. f (suc m)) A.1 i j (le_of_suc-le-suc h) (le_of_suc-le-suc k)

  module _ (n : ℕ) (f : ℕ → X) (A : Ascending eq lt (table n f)) (x : X) where
    -- what stands before one that is below x is below x
    pub below : (m : ℕ) → m < n → lt (f m) x ≡ true → (i : ℕ) → i < m + 1 → lt (f i) x ≡ true
    below m k e i h = test (ltb i m)
        (λ d. O.trans (f i) (f m) x (ascending-at n f A i m (ltb-true i m d) k) e)
        (λ d. let q = ltb-false i m d in let s : m ≡ i = omega arith in ap (λ (j : ℕ). lt (f j) x) (sym s) ∙ e)

    -- what stands after one that is not below x is not below x
    pub not-below : (m : ℕ) → lt (f m) x ≡ false → (i : ℕ) → m ≤ i → i < n → lt (f i) x ≡ false
    not-below m e i h k = fails (lt (f i) x) (λ d. both (lt (f m) x) (below i k d m (omega arith)) e)

  -- an element stands somewhere
  stands : (n : ℕ) (f : ℕ → X) (x : X) → has eq x (table n f) ≡ true → (i : ℕ) × (i < n) × (eq x (f i) ≡ true)
  stands zero f x h = absurd (true≢false (sym h))
  stands (suc n) f x h = go (stands n (λ i. f (suc i)) x) (or-e (eq x (f zero)) (has eq x (table n (λ i. f (suc i)))) h)
    where
      go : (has eq x (table n (λ i. f (suc i))) ≡ true → (i : ℕ) × (i < n) × (eq x (f (suc i)) ≡ true))
          → (eq x (f zero) ≡ true) ⊎ (has eq x (table n (λ i. f (suc i))) ≡ true) → (i : ℕ) × (i < suc n) × (eq x (f i) ≡ true)
      go later (inl e) = (zero, omega arith, e)
      go later (inr e) = let (i, k, q) = later e in (suc i, omega arith, q)

  module _ (n : ℕ) (f : ℕ → X) (A : Ascending eq lt (table n f)) (x : X) (k : ℕ) (rank : k ≡ count (λ (y : X). lt y x) (table n f)) where
    -- where x is there, it stands at its rank
    at-rank : has eq x (table n f) ≡ true → (k < n) × (eq x (f k) ≡ true)
    at-rank h =
        let (i, s, e) = stands n f x h in
        let q : x ≡ f i = O.same-eq x (f i) e in
        let r = first-pass (λ (y : X). lt y x) n i f (omega arith)
        (λ j d. ap (lt (f j)) q ∙ ascending-at n f A j i d s)
        (λ j c d. not-below n f A x i (ap (lt (f i)) q ∙ O.irrefl (f i)) j c d) in
        let w : i ≡ k = omega arith in
        (omega arith, ap (λ (j : ℕ). eq x (f j)) (sym w) ∙ e)

    pub has-at-rank : k < n → eq x (f k) ≡ has eq x (table n f)
    has-at-rank h = same_test (eq x (f k)) (has eq x (table n f))
        (λ e. ap (λ (y : X). has eq y (table n f)) (O.same-eq x (f k) e) ∙ has-table n f k h) (λ e. (at-rank e).1)

    pub none-past : n ≤ k → false ≡ has eq x (table n f)
    none-past h = sym (fails (has eq x (table n f)) (λ e. let r = (at-rank e).0 in omega arith))
