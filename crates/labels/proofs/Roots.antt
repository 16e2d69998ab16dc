-- Laws of the number of roots: it falls by one where two trees become one, and one root alone connects all.
-- Assumes nothing. N is the number of bases, n of those that bonds are of.
use mathlib.Core.Path.{◌≡◌, refl, ◌∙◌, ap, subst}
use mathlib.Core.Bool.{Bool, true, false}
use mathlib.Core.List.{List}
use Prim.Native.Nat.{ℕ, zero, suc, ◌+◌, ◌-◌, ◌<◌, ◌≤◌}
use native.Mathlib.Omega.{arith}
use native.Mathlib.Nat.{le_of_suc-le-suc, not-suc-le-zero}
use lib.Dec.{eqb, ltb}
use lib.ListN.{length, get_or, set}
use lib.Seq.{get_or-set_same, get_or-set_other}
use borrow.Author.Tests.{eqb-true, eqb-false, eq-eqb, ne_eqb, ltb-true, ltb-false}
use Rattle.causal.proofs.Tests.{test}
use Rattle.net.specs.Tests.{pick, count, table}
use Rattle.net.specs.declared.Bond.{Bond}
use Rattle.net.proofs.Tables.{get_d-table, table-cong}
use Rattle.labels.specs.Labelled.{Within}
use Rattle.labels.specs.Forest.{Forest, Spans, roots_below}
use Rattle.labels.proofs.Trees.{spans-stay, spans-more}

-- how many of the first n flags are set
abbrev flagged : ℕ → (ℕ → Bool) → ℕ
flagged n f = count (λ (t : Bool). t) (table n f)

one_less : (n : ℕ) (f g : ℕ → Bool) (y : ℕ) → y < n → f y ≡ true → g y ≡ false → ((p : ℕ) → (p ≡ y → ⊥) → g p ≡ f p) → flagged n g + 1 ≡ flagged n f
one_less zero f g y h a b e = absurd (not-suc-le-zero h)
one_less (suc n) f g zero h a b e =
    let q : flagged n (λ p. g (suc p)) ≡ flagged n (λ p. f (suc p)) =
    ap (count (λ (t : Bool). t)) (table-cong n (λ p. g (suc p)) (λ p. f (suc p)) (λ p k. e (suc p) (λ d. omega arith))) in
    rw (a, b) (omega arith)
one_less (suc n) f g (suc y) h a b e =
    let r = one_less n (λ p. f (suc p)) (λ p. g (suc p)) y (le_of_suc-le-suc h) a b (λ p d. e (suc p) (λ c. d (omega arith))) in
    let bit : Bool → ℕ = λ t. pick t 1 0 in
    let q : bit (g zero) ≡ bit (f zero) = ap bit (e zero (λ d. omega arith)) in
    omega arith

all-flagged : (n : ℕ) (f : ℕ → Bool) → ((p : ℕ) → p < n → f p ≡ true) → flagged n f ≡ n
all-flagged zero f h = refl
all-flagged (suc n) f h =
    let r = all-flagged n (λ p. f (suc p)) (λ p k. h (suc p) (omega arith)) in
    rw (h zero (omega arith)) (omega arith)

some-flagged : (n : ℕ) (f : ℕ → Bool) (a : ℕ) → a < n → f a ≡ true → 1 ≤ flagged n f
some-flagged zero f a h e = absurd (not-suc-le-zero h)
some-flagged (suc n) f zero h e = rw e (omega arith)
some-flagged (suc n) f (suc a) h e = let r = some-flagged n (λ p. f (suc p)) a (le_of_suc-le-suc h) e in omega arith

two-flagged : (n : ℕ) (f : ℕ → Bool) (a b : ℕ) → a < b → b < n → f a ≡ true → f b ≡ true → 2 ≤ flagged n f
two-flagged zero f a b k h d e = absurd (not-suc-le-zero h)
two-flagged (suc n) f a zero k h d e = absurd (not-suc-le-zero k)
two-flagged (suc n) f zero (suc b) k h d e = let r = some-flagged n (λ p. f (suc p)) b (le_of_suc-le-suc h) e in rw d (omega arith)
two-flagged (suc n) f (suc a) (suc b) k h d e = let r = two-flagged n (λ p. f (suc p)) a b (le_of_suc-le-suc k) (le_of_suc-le-suc h) d e in omega arith

-- at first every base is a root
pub roots-own : (N n : ℕ) (l : List ℕ) → n ≤ N → l ≡ table N (λ p. p) → roots_below n l ≡ n
roots-own N n l h e = all-flagged n (λ p. eqb (get_or l p 0) p) (λ p k. eq-eqb (get_or l p 0) p (ap (λ (z : List ℕ). get_or z p 0) e ∙ get_d-table N (λ p. p) p 0 (omega arith)))

-- a root that goes under another
pub roots_less : (n : ℕ) (l : List ℕ) (x y : ℕ) → n ≤ length l → x < y → y < n → get_or l y 0 ≡ y → roots_below n (set l y x) + 1 ≡ roots_below n l
roots_less n l x y s h k e = one_less n (λ p. eqb (get_or l p 0) p) (λ p. eqb (get_or (set l y x) p 0) p) y k (eq-eqb (get_or l y 0) y e)
    (ap (λ (z : ℕ). eqb z y) (get_or-set_same l y x 0 (omega arith)) ∙ ne_eqb x y (λ d. omega arith))
    (λ p d. ap (λ (z : ℕ). eqb z p) (get_or-set_other l y p x 0 d))

module _ (N n : ℕ) (le : n ≤ N) (l : List ℕ) (one : roots_below n l ≤ 1) where
  -- one root alone is the root of all
  one-root : (f : ℕ → ℕ) → Forest N l f → (p q : ℕ) → p < n → q < n → f p ≡ f q
  one-root f F p q h k = test (eqb (f p) (f q)) (λ e. eqb-true (f p) (f q) e) (λ e. test (ltb (f p) (f q))
      (λ d. absurd (two p q h k (ltb-true (f p) (f q) d)))
      (λ d. let a = ltb-false (f p) (f q) d in let b = eqb-false (f p) (f q) e in absurd (two q p k h (omega (arith, b)))))
    where
      two : (p q : ℕ) → p < n → q < n → f p < f q → ⊥
      two p q h k d =
          let u = F.low q (omega arith) in
          let r = two-flagged n (λ p. eqb (get_or l p 0) p) (f p) (f q) d (omega arith) (eq-eqb (get_or l (f p) 0) (f p) (F.fixed p (omega arith))) (eq-eqb (get_or l (f q) 0) (f q) (F.fixed q (omega arith))) in
          omega arith

  -- further bonds change nothing
  spans-past : (g : ℕ → Bond) (i d : ℕ) → ((j : ℕ) → j < i + d → Within n (g j)) → Spans N l (table i g) → Spans N l (table (i + d) g)
  spans-past g i zero w S = let e : i ≡ i + zero = omega arith in subst (λ (k : ℕ). Spans N l (table k g)) e S
  spans-past g i (suc d) w S =
      let T : Spans N l (table (i + d) g) = spans-past g i d (λ j h. w j (omega arith)) S in
      let v = w (i + d) (omega arith) in
      let wide : Within N (g (i + d)) = (let a = v.0 in omega arith, let a = v.1 in omega arith) in
      let e : i + d + 1 ≡ i + suc d = omega arith in
      subst (λ (k : ℕ). Spans N l (table k g)) e
      (spans-more N l (i + d) g (spans-stay N l (g (i + d)) wide (table (i + d) g) T (one-root T.root T.forest (g (i + d)).lo (g (i + d)).hi v.0 v.1)))

pub spans-rest : (N n : ℕ) → n ≤ N → (l : List ℕ) (g : ℕ → Bond) (i m : ℕ) → Spans N l (table i g) → roots_below n l ≤ 1 → i ≤ m
    → ((j : ℕ) → j < m → Within n (g j)) → Spans N l (table m g)
spans-rest N n le l g i m S one h w =
    let e : i + (m - i) ≡ m = omega arith in
    subst (λ (k : ℕ). Spans N l (table k g)) e (spans-past N n le l one g i (m - i) (λ j k. w j (omega arith)) S)
