-- Laws of loops over an index: one that fills a list from the front with f 0, f 1, .., and those that gather a test.
-- Assumes nothing.
use mathlib.Core.Path.{◌≡◌, refl, sym, ◌∙◌, ap}
use mathlib.Core.Logic.{inl, inr}
use mathlib.Core.Bool.{Bool, true, false, ◌||◌, or-false, or_assoc}
use mathlib.Core.List.{List, [], ◌∷◌, ◌++◌, map, append_assoc}
use Prim.Native.Nat.{ℕ, zero, suc, ◌+◌, ◌-◌, ◌<◌, ◌≤◌}
use native.Mathlib.Omega.{arith}
use native.Mathlib.Numerals.{add-one}
use native.Mathlib.Nat.{le_of_suc-le-suc, not-suc-le-zero}
use lib.Dec.{eqb}
use lib.ListN.{length, get_or, drop, set, length-set, drop_of_length-le}
use lib.Seq.{ext_get_or, drop-cons, set_at, get_or-set_same, get_or-set_other}
use borrow.Author.Tests.{eqb-true, eqb-false}
use Rattle.causal.specs.Lists.{Mem}
use Rattle.causal.proofs.Tests.{test}
use Rattle.net.specs.Tests.{pick, count, table}
use Rattle.net.specs.Sorted.{has}
use Rattle.net.proofs.Tables.{length-table, get_d-table, table_more, table-list}

pub pick-one : (b : Bool) → pick b 1 0 ≤ 1
pick-one true = omega arith
pick-one false = omega arith

module _ {X : Type 0} where
  -- after i stores the list is f 0, .., f (i - 1) and then what it was
  pub fill-turn : (f : ℕ → X) (i : ℕ) (l₀ l : List X) (d v : X) → i < length l₀ → v ≡ f i → l ≡ table i f ++ drop i l₀ → set l i v ≡ table (i + 1) f ++ drop (i + 1) l₀
  fill-turn f i l₀ l d v h e q =
      rw (q, drop-cons l₀ i d h) (set_at (table i f) (get_or l₀ i d) (drop (suc i) l₀) v i (length-table i f)
      ∙ ap (λ (x : X). table i f ++ x ∷ drop (suc i) l₀) e
      ∙ sym (append_assoc (table i f) (f i ∷ []) (drop (suc i) l₀))
      ∙ ap (λ (k : List X). k ++ drop (suc i) l₀) (sym (table_more i f))
      ∙ ap (λ (k : ℕ). table (i + 1) f ++ drop k l₀) (sym (add-one i)))

  append-nil : (l : List X) → l ++ [] ≡ l
  append-nil [] = refl
  append-nil (x ∷ l) = ap (λ (k : List X). x ∷ k) (append-nil l)

  -- the whole list is filled
  pub fill_end : (f : ℕ → X) (i n : ℕ) (l₀ l : List X) → length l₀ ≡ n → i ≡ n → l ≡ table i f ++ drop i l₀ → l ≡ table n f
  fill_end f i n l₀ l s e q =
      let h : length l₀ ≤ i = omega arith in
      q ∙ ap (λ (k : List X). table i f ++ k) (drop_of_length-le l₀ h) ∙ append-nil (table i f) ∙ ap (λ (k : ℕ). table k f) e

  has-append : (eq : X → X → Bool) (x : X) (l k : List X) → has eq x (l ++ k) ≡ (has eq x l || has eq x k)
  has-append eq x [] k = refl
  has-append eq x (y ∷ l) k = ap (λ (b : Bool). eq x y || b) (has-append eq x l k) ∙ sym (or_assoc (eq x y) (has eq x l) (has eq x k))

  pub has_more : (eq : X → X → Bool) (x : X) (n : ℕ) (f : ℕ → X) → has eq x (table (n + 1) f) ≡ (has eq x (table n f) || eq x (f n))
  has_more eq x n f = ap (has eq x) (table_more n f) ∙ has-append eq x (table n f) (f n ∷ []) ∙ ap (λ (b : Bool). has eq x (table n f) || b) (or-false (eq x (f n)))

  count-append : (t : X → Bool) (l k : List X) → count t (l ++ k) ≡ count t l + count t k
  count-append t [] k = omega arith
  count-append t (y ∷ l) k = let e = count-append t l k in omega arith

  pub count-more : (t : X → Bool) (n : ℕ) (f : ℕ → X) → count t (table (n + 1) f) ≡ count t (table n f) + pick (t (f n)) 1 0
  count-more t n f =
      let a : count t (table (n + 1) f) ≡ count t (table n f ++ (f n ∷ [])) = ap (count t) (table_more n f) in
      let b = count-append t (table n f) (f n ∷ []) in
      omega arith

  pub count-le : (t : X → Bool) (l : List X) → count t l ≤ length l
  count-le t [] = omega arith
  count-le t (y ∷ l) = let a = count-le t l in let b = pick-one (t y) in omega arith

  -- one store in a table
  pub set-table : (N : ℕ) (f : ℕ → X) (x : ℕ) (v : X) → x < N → set (table N f) x v ≡ table N (λ y. pick (eqb x y) v (f y))
  set-table N f x v h = ext_get_or v (set (table N f) x v) (table N (λ y. pick (eqb x y) v (f y)))
      (length-set (table N f) x v ∙ length-table N f ∙ sym (length-table N (λ y. pick (eqb x y) v (f y))))
      (λ i k. let s = length-set (table N f) x v in let t = length-table N f in at i (omega arith))
    where
      at : (i : ℕ) → i < N → get_or (set (table N f) x v) i v ≡ get_or (table N (λ y. pick (eqb x y) v (f y))) i v
      at i k = test (eqb x i)
          (λ e. let q : x ≡ i = eqb-true x i e in
          ap (λ (j : ℕ). get_or (set (table N f) x v) j v) (sym q) ∙ get_or-set_same (table N f) x v v (rw (length-table N f) h)
          ∙ sym (get_d-table N (λ y. pick (eqb x y) v (f y)) i v k ∙ rw e))
          (λ e. let q : i ≡ x → ⊥ = λ d. eqb-false x i e (sym d) in
          get_or-set_other (table N f) x i v v q ∙ get_d-table N f i v k ∙ sym (get_d-table N (λ y. pick (eqb x y) v (f y)) i v k ∙ rw e))

  -- a loop from the last element to the first
  pub drop-back : (n L : ℕ) (f : ℕ → X) → 0 < L → L ≤ n → drop (L - 1) (table n f) ≡ f (L - 1) ∷ drop L (table n f)
  drop-back n L f a b =
      let s : L - 1 < length (table n f) = rw (length-table n f) (omega arith) in
      let q : suc (L - 1) ≡ L = omega arith in
      drop-cons (table n f) (L - 1) (f 0) s
      ∙ ap (λ (x : X). x ∷ drop (suc (L - 1)) (table n f)) (get_d-table n f (L - 1) (f 0) (omega arith))
      ∙ ap (λ (k : ℕ). f (L - 1) ∷ drop k (table n f)) q

module _ {X Y : Type 0} where
  pub map-table : (g : X → Y) (n : ℕ) (f : ℕ → X) → map g (table n f) ≡ table n (λ i. g (f i))
  map-table g zero f = refl
  map-table g (suc n) f = ap (λ (k : List Y). g (f zero) ∷ k) (map-table g n (λ i. f (suc i)))

  -- a list mapped is the table of its elements' images
  pub table-map : (g : X → Y) (l : List X) (d : X) → table (length l) (λ i. g (get_or l i d)) ≡ map g l
  table-map g l d = sym (map-table g (length l) (λ i. get_or l i d)) ∙ ap (map g) (table-list l d)

-- no more elements pass than a table has
pub count-table : {X : Type 0} (t : X → Bool) (n : ℕ) (f : ℕ → X) → count t (table n f) ≤ n
count-table t n f = let a = count-le t (table n f) in let b = length-table n f in omega arith

pub mem-table : {X : Type 0} (n : ℕ) (f : ℕ → X) (p : ℕ) → p < n → Mem (f p) (table n f)
mem-table zero f p h = absurd (not-suc-le-zero h)
mem-table (suc n) f zero h = inl refl
mem-table (suc n) f (suc p) h = inr (mem-table n (λ k. f (suc k)) p (le_of_suc-le-suc h))
