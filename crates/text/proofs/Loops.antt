-- Laws of the two loops that write a number: how many digits are counted, and the digits that are left to write.
-- Assumes nothing.
use mathlib.Core.Path.{◌≡◌, refl, sym, ap, ◌∙◌}
use mathlib.Core.Logic.{⊎_elim}
use Prim.Native.Nat.{ℕ, ◌+◌, ◌-◌, ◌*◌, ◌/◌, ◌%◌, ◌≤◌, ◌<◌}
use native.Mathlib.Nat.{div-one, div-div-eq-div-mul, le-div_iff_mul-le, div-lt_iff_lt-mul, eq-or-lt_of_le}
use native.Mathlib.Omega.{arith}
use mathlib.Core.List.{List, [], ◌∷◌, ◌++◌}
use lib.ListN.{length, set, length-append}
use lib.Seq.{sets}
use Rattle.text.specs.Decimal.{digits}
use Rattle.text.proofs.Digits.{digits-one, digits_more, digits_last, digits-length}
use Rattle.text.proofs.Writes.{sets_last, sets-none}

-- ---- How many digits

-- the last `count` digits of n are counted, `unit` (1, 10, 100, ..) being that of the first of these: how many n has in p places
pub record Counted (p n unit count : ℕ) : Type 0 where
  pub within : count ≤ p + 1 → length (digits p n) + 1 ≡ count + length (digits (p + 1 - count) (n / unit))
  pub beyond : p < count → length (digits p n) ≡ p

pub counted-first : (p n : ℕ) → Counted p n 1 1
counted-first p n = record { within = λ h. first; beyond = λ h. omega (arith, digits-length p n) }
  where
    first : length (digits p n) + 1 ≡ 1 + length (digits (p + 1 - 1) (n / 1))
    first = let e : p + 1 - 1 ≡ p = omega arith in rw (e, div-one n) (omega arith)

pub counted-more : {p n unit count : ℕ} → 0 < unit → unit * 10 ≤ n → Counted p n unit count → Counted p n (unit * 10) (count + 1)
counted-more {p} {n} {unit} {count} u h w = record { within = more; beyond = λ l. ⊎_elim last w.beyond (eq-or-lt_of_le (omega arith)) }
  where
    more : count + 1 ≤ p + 1 → length (digits p n) + 1 ≡ count + 1 + length (digits (p + 1 - (count + 1)) (n / (unit * 10)))
    more l =
        let d = digits_more (p + 1 - count) (n / unit) (λ e. omega arith) ((le-div_iff_mul-le u).1 (omega arith)) in
        let e : p + 1 - (count + 1) ≡ p + 1 - count - 1 = omega arith in
        rw (e, ← div-div-eq-div-mul n unit 10) (omega (arith, w.within (omega arith), ap length d, length-append (digits (p + 1 - count - 1) (n / unit / 10)) ((48 + n / unit % 10) ∷ [])))

    last : p ≡ count → length (digits p n) ≡ p
    last e = omega (arith, more (omega arith), digits-length (p + 1 - (count + 1)) (n / (unit * 10)))

pub counted-all : {p n unit count : ℕ} → 0 < unit → n < unit * 10 → count ≤ p → Counted p n unit count → count ≡ length (digits p n)
counted-all {p} {n} {unit} {count} u h l w =
    let d = digits-one (p + 1 - count) (n / unit) (λ e. omega arith) ((div-lt_iff_lt-mul u).1 (omega arith)) in
    omega (arith, w.within (omega arith), ap length d)

-- ---- The digits that are left

-- j digits of `rest` are left to write: b with these stored from `at` on is `whole`
pub record Left (at : ℕ) (whole b : List ℕ) (rest j : ℕ) : Type 0 where
  pub places : ℕ
  pub count : j ≡ length (digits places rest)
  pub list : sets b at (digits places rest) ≡ whole

pub left-all : {at n j : ℕ} {b : List ℕ} (p : ℕ) → j ≡ length (digits p n) → Left at (sets b at (digits p n)) b n j
left-all p e = record { places = p; count = e; list = refl }

-- the last of them is written
pub left-fewer : {at rest j : ℕ} {whole b : List ℕ} → 0 < j → Left at whole b rest j → Left at whole (set b (at + (j - 1)) (48 + rest % 10)) (rest / 10) (j - 1)
left-fewer {at} {rest} {j} {whole} {b} h w = record { places = l.0; count = fewer; list = rw fewer (sets_last (digits l.0 (rest / 10)) b at (48 + rest % 10) ∙ ap (sets b at) (sym l.1) ∙ w.list) }
  where
    l : (k : ℕ) × (digits w.places rest ≡ digits k (rest / 10) ++ ((48 + rest % 10) ∷ []))
    l = digits_last w.places rest (λ e. omega (arith, w.count, digits-length w.places rest))

    fewer : j - 1 ≡ length (digits l.0 (rest / 10))
    fewer = omega (arith, w.count, ap length l.1, length-append (digits l.0 (rest / 10)) ((48 + rest % 10) ∷ []))

pub left-none : {at rest j : ℕ} {whole b : List ℕ} → j ≡ 0 → Left at whole b rest j → b ≡ whole
left-none {at} {rest} {j} {whole} {b} e w = sym (sets-none (digits w.places rest) b at (sym w.count ∙ e)) ∙ w.list
