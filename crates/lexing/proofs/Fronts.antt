-- The longest beginning that passes, of a text that passes and one that stops.
-- Assumes nothing.
use mathlib.Core.Path.{◌≡◌, refl, ap, ◌∙◌}
use mathlib.Core.Bool.{Bool, true, false, not, ◌||◌}
use Prim.Native.Nat.{ℕ, zero, suc, ◌+◌, ◌*◌, ◌/◌, ◌%◌, ◌<◌, ◌≤◌}
use native.Mathlib.Omega.{arith}
use mathlib.Core.List.{List, [], ◌∷◌, ◌++◌, foldl-append}
use lib.Dec.{ltb, leb, eqb}
use borrow.Author.Tests.{eqb-true, not-true, le-leb, lt-leb, ltb-true, leb-true}
use Rattle.net.specs.Tests.{all}
use Rattle.net.proofs.Tests.{and_l, and_r, and_i, all_append}
use Rattle.text.specs.Decimal.{digits, decimal}
use Rattle.lexing.specs.Tokens.{letter, digit, front, past, more, value, too_much, ends}

-- a text is empty or its first letter fails
abbrev pub stops : (ℕ → Bool) → List ℕ → Bool
stops f [] = true
stops f (c ∷ s) = not (f c)

pub front-stop : (f : ℕ → Bool) (w r : List ℕ) → all f w ≡ true → stops f r ≡ true → front f (w ++ r) ≡ w
front-stop f [] [] p q = refl
front-stop f [] (c ∷ r) p q = rw (not-true (f c) q)
front-stop f (c ∷ w) r p q = rw (and_l (f c) (all f w) p) (ap (λ (l : List ℕ). c ∷ l) (front-stop f w r (and_r (f c) (all f w) p) q))

pub past_stop : (f : ℕ → Bool) (w r : List ℕ) → all f w ≡ true → stops f r ≡ true → past f (w ++ r) ≡ r
past_stop f [] [] p q = refl
past_stop f [] (c ∷ r) p q = rw (not-true (f c) q)
past_stop f (c ∷ w) r p q = rw (and_l (f c) (all f w) p) (past_stop f w r (and_r (f c) (all f w) p) q)

-- ---- what ends an item is no letter and no digit

ends_low : (c : ℕ) (b : Bool) → leb c 32 ≡ b → (b || eqb c 35) ≡ true → c ≤ 35
ends_low c true e h = let l : c ≤ 32 = leb-true c 32 e in omega arith
ends_low c false e h = let l : c ≡ 35 = eqb-true c 35 h in omega arith

pub ends-letter : (s : List ℕ) → ends s ≡ true → stops letter s ≡ true
ends-letter [] h = refl
ends-letter (c ∷ s) h = let l : c ≤ 35 = ends_low c (leb c 32) refl h in rw (lt-leb 97 c (omega arith))

pub ends-digit : (s : List ℕ) → ends s ≡ true → stops digit s ≡ true
ends-digit [] h = refl
ends-digit (c ∷ s) h = let l : c ≤ 35 = ends_low c (leb c 32) refl h in rw (lt-leb 48 c (omega arith))

-- ---- decimal digits

abbrev bound : ℕ → ℕ
bound zero = 1
bound (suc k) = 10 * bound k

is_digit : (n : ℕ) → n < 10 → digit (48 + n) ≡ true
is_digit n h = and_i (leb 48 (48 + n)) (leb (48 + n) 57) (le-leb 48 (48 + n) (omega arith)) (le-leb (48 + n) 57 (omega arith))

module _ (k n : ℕ) (ih : all digit (digits k (n / 10)) ≡ true) where
  digits-by : (b : Bool) → ltb n 10 ≡ b → all digit (digits (suc k) n) ≡ true
  digits-by true e = rw e (let l : n < 10 = ltb-true n 10 e in rw (is_digit n l))
  digits-by false e = rw e (all_append digit (digits k (n / 10)) ((48 + n % 10) ∷ []) ∙ rw (ih, is_digit (n % 10) (omega arith)))

pub digits-digits : (k n : ℕ) → all digit (digits k n) ≡ true
digits-digits zero n = refl
digits-digits (suc k) n = digits-by k n (digits-digits k (n / 10)) (ltb n 10) refl

module _ (k n : ℕ) (l : n < too_much) (h : n < bound (suc k)) (ih : n / 10 < bound k → value (digits k (n / 10)) ≡ n / 10) where
  value-by : (b : Bool) → ltb n 10 ≡ b → value (digits (suc k) n) ≡ n
  value-by true e = rw e (omega arith)
  value-by false e = rw e (foldl-append more 0 (digits k (n / 10)) ((48 + n % 10) ∷ []) ∙ rw (ih (omega arith)) (omega arith))

pub digits_value : (k n : ℕ) → n < too_much → n < bound k → value (digits k n) ≡ n
digits_value zero n l h = omega arith
digits_value (suc k) n l h = value-by k n l h (digits_value k (n / 10) (omega arith)) (ltb n 10) refl

pub decimal-value : (n : ℕ) → n < too_much → value (decimal n) ≡ n
unfolding decimal
decimal-value n l = digits_value 10 n l (omega arith)

pub decimal-digits : (n : ℕ) → all digit (decimal n) ≡ true
unfolding decimal
decimal-digits n = digits-digits 10 n
