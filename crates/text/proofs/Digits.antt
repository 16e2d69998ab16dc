-- Laws of decimal digits: one digit, one digit more, the last digit, and how many there are at most.
-- Assumes nothing.
use mathlib.Core.Path.{◌≡◌, refl}
use Prim.Native.Nat.{ℕ, zero, suc, ◌+◌, ◌-◌, ◌/◌, ◌%◌, ◌≤◌, ◌<◌}
use native.Mathlib.Nat.{mod-eq_of_lt}
use native.Mathlib.Omega.{arith}
use mathlib.Core.Bool.{Bool, true, false}
use mathlib.Core.List.{[], ◌∷◌, ◌++◌}
use lib.Dec.{ltb}
use lib.ListN.{length, length-append}
use borrow.Author.Tests.{lt-ltb, le-ltb, ltb-true, ltb-false}
use Rattle.text.specs.Decimal.{digits}

pub digits-one : (p n : ℕ) → (p ≡ 0 → ⊥) → n < 10 → digits p n ≡ (48 + n) ∷ []
digits-one zero n h l = absurd (h refl)
digits-one (suc k) n h l = rw (lt-ltb n 10 l)

pub digits_more : (p n : ℕ) → (p ≡ 0 → ⊥) → 10 ≤ n → digits p n ≡ digits (p - 1) (n / 10) ++ ((48 + n % 10) ∷ [])
digits_more zero n h l = absurd (h refl)
digits_more (suc k) n h l =
    let e : suc k - 1 ≡ k = omega arith in
    rw (le-ltb n 10 l, e)

-- the last digit, and the digits before it in some number of places
pub digits_last : (p n : ℕ) → (p ≡ 0 → ⊥) → (k : ℕ) × (digits p n ≡ digits k (n / 10) ++ ((48 + n % 10) ∷ []))
digits_last p n h = by (ltb n 10) refl
  where
    by : (b : Bool) → ltb n 10 ≡ b → (k : ℕ) × (digits p n ≡ digits k (n / 10) ++ ((48 + n % 10) ∷ []))
    by true e = (0, rw (mod-eq_of_lt (ltb-true n 10 e)) (digits-one p n h (ltb-true n 10 e)))
    by false e = (p - 1, digits_more p n h (ltb-false n 10 e))

module _ (k n : ℕ) (ih : length (digits k (n / 10)) ≤ k) where
  length-by : (b : Bool) → ltb n 10 ≡ b → length (digits (suc k) n) ≤ suc k
  length-by true e = rw e (omega arith)
  length-by false e = rw e (omega (arith, length-append (digits k (n / 10)) ((48 + n % 10) ∷ [])))

pub digits-length : (p n : ℕ) → length (digits p n) ≤ p
digits-length zero n = omega arith
digits-length (suc k) n = length-by k n (digits-length k (n / 10)) (ltb n 10) refl
