-- Laws of lists that are the same, as a test gathered over an index.
-- Assumes nothing.
use mathlib.Core.Path.{◌≡◌, refl, sym, ◌∙◌, ap, ap₂}
use mathlib.Core.Bool.{Bool, true, false, ◌&&◌, and-false}
use mathlib.Core.List.{List, [], ◌∷◌}
use Prim.Native.Nat.{ℕ, zero, suc, ◌≤◌}
use native.Mathlib.Omega.{arith}
use native.Mathlib.Nat.{le_of_suc-le-suc, not-suc-le-zero}
use lib.Dec.{eqb}
use Rattle.std.specs.Cmp.Lexicographic.{pointwise}
use lib.ListN.{length, get_or, take}
use Rattle.net.specs.Tests.{all, table, same_list}
use Rattle.net.specs.Net.{same_bond}
use Rattle.net.specs.History.{same_marking}
use Rattle.bonds.specs.Ends.{ends, bonds_in}
use Rattle.marking.specs.declared.Marking.{Marking}
use Rattle.marking.specs.Form.{bonds_of, marking_of}
use Rattle.marking.proofs.Sets.{self}

module _ {X : Type 0} (eq : X → X → Bool) where
  same-table : (n : ℕ) (f g : ℕ → X) → same_list eq (table n f) (table n g) ≡ all self (table n (λ i. eq (f i) (g i)))
  same-table zero f g = refl
  same-table (suc n) f g = ap (λ (b : Bool). eq (f zero) (g zero) && b) (same-table n (λ i. f (suc i)) (λ i. g (suc i)))

  -- lists of different lengths are not the same
  pub same_count : (n k : ℕ) (f g : ℕ → X) → (n ≡ k → ⊥) → same_list eq (table n f) (table k g) ≡ false
  same_count zero zero f g h = absurd (h refl)
  same_count zero (suc k) f g h = refl
  same_count (suc n) zero f g h = refl
  same_count (suc n) (suc k) f g h = go (eq (f zero) (g zero)) (same_count n k (λ i. f (suc i)) (λ i. g (suc i)) (λ e. h (ap suc e)))
    where
      go : (b : Bool) → same_list eq (table n (λ i. f (suc i))) (table k (λ i. g (suc i))) ≡ false → (b && same_list eq (table n (λ i. f (suc i))) (table k (λ i. g (suc i)))) ≡ false
      go true e = e
      go false e = refl

  pub same_lists : (l k : List X) (d : X) → length l ≡ length k → same_list eq l k ≡ all self (table (length l) (λ i. eq (get_or l i d) (get_or k i d)))
  same_lists [] [] d h = refl
  same_lists [] (y ∷ k) d h = absurd (let z : ⊥ = omega arith in z)
  same_lists (x ∷ l) [] d h = absurd (let z : ⊥ = omega arith in z)
  same_lists (x ∷ l) (y ∷ k) d h = ap (λ (b : Bool). eq x y && b) (same_lists l k d (omega arith))

-- the library's test of two lists is the one of the definitions
pub pointwise-same : (a b : List ℕ) → pointwise eqb a b ≡ same_list eqb a b
pointwise-same [] [] = refl
pointwise-same [] (y ∷ b) = refl
pointwise-same (x ∷ a) [] = refl
pointwise-same (x ∷ a) (y ∷ b) = ap (λ (c : Bool). eqb x y && c) (pointwise-same a b)

-- the bytes at i are the same
abbrev pub same_at : List ℕ → List ℕ → ℕ → Bool
same_at a b i = eqb (get_or a i 0) (get_or b i 0)

pub same-take : (n : ℕ) (a b : List ℕ) → n ≤ length a → n ≤ length b → same_list eqb (take n a) (take n b) ≡ all self (table n (same_at a b))
same-take zero a b h k = refl
same-take (suc n) [] b h k = absurd (not-suc-le-zero h)
same-take (suc n) (x ∷ a) [] h k = absurd (not-suc-le-zero k)
same-take (suc n) (x ∷ a) (y ∷ b) h k = ap (λ (c : Bool). eqb x y && c) (same-take n a b (le_of_suc-le-suc h) (le_of_suc-le-suc k))

all_both : (n : ℕ) (u v : ℕ → Bool) → all self (table n (λ i. u i && v i)) ≡ (all self (table n u) && all self (table n v))
all_both zero u v = refl
all_both (suc n) u v = go (u zero) (v zero) (all_both n (λ i. u (suc i)) (λ i. v (suc i)))
  where
    go : (a b : Bool) → all self (table n (λ i. u (suc i) && v (suc i))) ≡ (all self (table n (λ i. u (suc i))) && all self (table n (λ i. v (suc i))))
        → ((a && b) && all self (table n (λ i. u (suc i) && v (suc i)))) ≡ ((a && all self (table n (λ i. u (suc i)))) && (b && all self (table n (λ i. v (suc i)))))
    go true true e = e
    go true false e = sym (both-no (all self (table n (λ i. u (suc i)))))
      where
        both-no : (c : Bool) → (c && false) ≡ false
        both-no true = refl
        both-no false = refl
    go false b e = refl

-- bonds are the same if both ends are
pub same-bonds : (n : ℕ) (lo hi lo' hi' : List ℕ) → n ≤ length lo → n ≤ length hi → n ≤ length lo' → n ≤ length hi'
    → same_list same_bond (bonds_in lo hi n) (bonds_in lo' hi' n) ≡ (same_list eqb (take n lo) (take n lo') && same_list eqb (take n hi) (take n hi'))
same-bonds n lo hi lo' hi' a b c d = same-table same_bond n (ends lo hi) (ends lo' hi') ∙ all_both n (same_at lo lo') (same_at hi hi')
    ∙ ap₂ (λ (x y : Bool). x && y) (sym (same-take n lo lo' a c)) (sym (same-take n hi hi' b d))

-- ---- two markings

module _ (n : ℕ) (a b : Marking) where
  pub counts-differ : (a.count ≡ b.count → ⊥) → false ≡ same_marking (marking_of n a) (marking_of n b)
  counts-differ h = sym (ap (λ (x : Bool). same_list eqb (take n a.places) (take n b.places) && x)
      (same_count same_bond a.count b.count (ends a.lo a.hi) (ends b.lo b.hi) h)
      ∙ and-false (same_list eqb (take n a.places) (take n b.places)))

  pub parts_same : a.count ≡ b.count → a.count ≤ length a.lo → a.count ≤ length a.hi → a.count ≤ length b.lo → a.count ≤ length b.hi
      → (x y z : Bool) → x ≡ same_list eqb (take n a.places) (take n b.places) → y ≡ same_list eqb (take a.count a.lo) (take a.count b.lo)
      → z ≡ same_list eqb (take a.count a.hi) (take a.count b.hi) → (x && (y && z)) ≡ same_marking (marking_of n a) (marking_of n b)
  parts_same e p q u v x y z ex ey ez =
      rw (ex, ey, ez) (ap (λ (c : Bool). same_list eqb (take n a.places) (take n b.places) && c)
      (sym (same-bonds a.count a.lo a.hi b.lo b.hi p q u v) ∙ ap (λ (k : ℕ). same_list same_bond (bonds_of a) (bonds_in b.lo b.hi k)) e))
