-- Laws of the places that a number needs: more places add nothing, and a small number has few digits.
-- Assumes nothing.
use mathlib.Core.Path.{◌≡◌, refl}
use Prim.Native.Nat.{ℕ, zero, suc, ◌*◌, ◌+◌, ◌/◌, ◌%◌, ◌≤◌, ◌<◌}
use native.Mathlib.Omega.{arith}
use mathlib.Core.Bool.{Bool, true, false}
use mathlib.Core.List.{[], ◌∷◌}
use lib.Dec.{ltb}
use lib.ListN.{length, length-append}
use borrow.Author.Tests.{lt-ltb}
use Rattle.text.specs.Decimal.{digits, decimal}

-- the numbers of at most k + 1 digits lie below this
abbrev pub bound : ℕ → ℕ
bound zero = 10
bound (suc k) = 10 * bound k

module _ (k p q n : ℕ) (ih : n / 10 < bound k → digits p (n / 10) ≡ digits q (n / 10)) where
  same_by : (b : Bool) → ltb n 10 ≡ b → n < bound (suc k) → digits (suc p) n ≡ digits (suc q) n
  same_by true e h = rw e
  same_by false e h =
      let l : n / 10 < bound k = omega (arith, h) in
      rw (e, ih l)

-- with enough places, the text does not depend on them
pub digits_same : (k p q n : ℕ) → k < p → k < q → n < bound k → digits p n ≡ digits q n
digits_same k zero q n a b h = absurd (omega arith)
digits_same k (suc p) zero n a b h = absurd (omega arith)
digits_same zero (suc p) (suc q) n a b h = rw (lt-ltb n 10 h)
digits_same (suc k) (suc p) (suc q) n a b h = same_by k p q n (digits_same k p q (n / 10) (omega arith) (omega arith)) (ltb n 10) refl h

-- a number of 16 bits needs five places
pub decimal-five : (n : ℕ) → n < 100000 → digits 5 n ≡ decimal n
unfolding decimal
decimal-five n h = digits_same 4 5 10 n (omega arith) (omega arith) h

module _ (k p n : ℕ) (ih : n / 10 < bound k → length (digits p (n / 10)) ≤ suc k) where
  few-by : (b : Bool) → ltb n 10 ≡ b → n < bound (suc k) → length (digits (suc p) n) ≤ suc (suc k)
  few-by true e h = rw e (omega arith)
  few-by false e h =
      let l : n / 10 < bound k = omega arith in
      rw e (omega (arith, ih l, length-append (digits p (n / 10)) ((48 + n % 10) ∷ [])))

-- a number below the bound has no more digits
pub digits-few : (k p n : ℕ) → n < bound k → length (digits p n) ≤ suc k
digits-few k zero n h = omega arith
digits-few zero (suc p) n h = rw (lt-ltb n 10 h) (omega arith)
digits-few (suc k) (suc p) n h = few-by k p n (digits-few k p (n / 10)) (ltb n 10) refl h
