-- The checks 1 to 10 before a call's own: which is the first that holds, and what is left where none does.
-- Assumes nothing.
use mathlib.Core.Path.{◌≡◌, refl, sym, ◌∙◌, ap}
use mathlib.Core.Bool.{Bool, true, false, not, ◌&&◌}
use mathlib.Core.List.{List, [], ◌∷◌}
use Prim.Native.Nat.{ℕ, zero, suc, ◌+◌}
use lib.Dec.{eqb, ltb}
use borrow.Author.Tests.{eq-eqb, ne_eqb}
use Rattle.net.specs.Tests.{pick, all}
use Rattle.net.specs.Checks.{Check, check, clear, first}
use Rattle.net.specs.Limits.{max_bases}
use Rattle.net.proofs.Tests.{same-i}
use Rattle.net.proofs.Checks.{clear-append}
use Rattle.format.specs.Parts.{bases_of, transitions_of}
use Rattle.sheet.specs.Checks.{sheet_checks, checks_from}
use Rattle.sheet.proofs.Order.{clear_first, first-append}
use Rattle.net.specs.declared.Key.{Key}
use Rattle.marking.specs.declared.Marking.{Marking}
use Rattle.firings.specs.Lines.{lines_in}
use Rattle.firings.specs.declared.Firings.{Firings}
use Rattle.movers.specs.Lamp.{last_movers}
use Rattle.sound.specs.Soundness.{kept_in, checks_in, Kept}

-- ---- the sheet's checks have numbers above 0

from-positive : (s : List ℕ) (k n : ℕ) → all (λ (c : Check). ltb 0 c.number) (checks_from s k n) ≡ true
from-positive s k zero = refl
from-positive s k (suc n) = from-positive s (k + 1) n

pub sheet-positive : (s : List ℕ) → all (λ (c : Check). ltb 0 c.number) (sheet_checks s) ≡ true
unfolding sheet_checks
sheet-positive s = from-positive s 0 (transitions_of s)

pub sheet-clear : (s : List ℕ) (n : ℕ) → n ≡ first (sheet_checks s) → n ≡ 0 → clear (sheet_checks s) ≡ true
sheet-clear s n e z = clear_first (sheet_checks s) (sheet-positive s) ∙ ap (λ (k : ℕ). eqb k 0) (sym e) ∙ eq-eqb n 0 z

pub sheet-held : (s : List ℕ) (n : ℕ) → n ≡ first (sheet_checks s) → (n ≡ 0 → ⊥) → clear (sheet_checks s) ≡ false
sheet-held s n e h = clear_first (sheet_checks s) (sheet-positive s) ∙ ap (λ (k : ℕ). eqb k 0) (sym e) ∙ ne_eqb n 0 h

-- ---- the first of 1 to 10, and a call's own behind them

module _ (s : List ℕ) (m : Marking) (f : Firings) (k : Key) (t : List ℕ) where
  abbrev behind : List Check → List Check
  behind own = check 10 (not (kept_in s m f k t)) ∷ own

  -- all in one: whether one of the sheet's holds, then whether it is 10
  whole : (own : List Check) → first (checks_in s m f k t own) ≡ pick (clear (sheet_checks s)) (pick (not (kept_in s m f k t)) 10 (first own)) (first (sheet_checks s))
  whole own = first-append (sheet_checks s) (behind own) (sheet-positive s) ∙ ap (λ (b : Bool). pick b (first (behind own)) (first (sheet_checks s))) (sym (clear_first (sheet_checks s) (sheet-positive s)))

  none : (own : List Check) → clear (checks_in s m f k t own) ≡ (clear (sheet_checks s) && (not (not (kept_in s m f k t)) && clear own))
  none own = clear-append (sheet_checks s) (behind own)

  pub by-sheet : (n : ℕ) → n ≡ first (sheet_checks s) → (n ≡ 0 → ⊥) → n ≡ first (checks_in s m f k t [])
  by-sheet n e h = e ∙ sym (whole [] ∙ ap (λ (b : Bool). pick b (pick (not (kept_in s m f k t)) 10 0) (first (sheet_checks s))) (sheet-held s n e h))

  pub by-record : clear (sheet_checks s) ≡ true → kept_in s m f k t ≡ false → 10 ≡ first (checks_in s m f k t [])
  by-record a h = sym (whole [] ∙ rw (a, h))

  pub by-none : clear (sheet_checks s) ≡ true → kept_in s m f k t ≡ true → 0 ≡ first (checks_in s m f k t [])
  by-none a h = sym (whole [] ∙ rw (a, h))

  -- where one of 1 to 10 holds it is the first, whatever the call's own
  pub refused-first : (n : ℕ) → n ≡ first (checks_in s m f k t []) → (n ≡ 0 → ⊥) → (own : List Check) → n ≡ first (checks_in s m f k t own)
  refused-first n e h own = e ∙ whole [] ∙ go (clear (sheet_checks s)) refl (kept_in s m f k t) refl ∙ sym (whole own)
    where
      go : (b : Bool) → clear (sheet_checks s) ≡ b → (d : Bool) → kept_in s m f k t ≡ d → pick b (pick (not d) 10 0) (first (sheet_checks s)) ≡ pick b (pick (not d) 10 (first own)) (first (sheet_checks s))
      go true a true g = absurd (h (e ∙ sym (by-none a g)))
      go true a false g = refl
      go false a d g = refl

  pub refused-clear : (n : ℕ) → n ≡ first (checks_in s m f k t []) → (n ≡ 0 → ⊥) → (own : List Check) → clear (checks_in s m f k t own) ≡ false
  refused-clear n e h own = none own ∙ go (clear (sheet_checks s)) refl (kept_in s m f k t) refl
    where
      go : (b : Bool) → clear (sheet_checks s) ≡ b → (d : Bool) → kept_in s m f k t ≡ d → (b && (not (not d) && clear own)) ≡ false
      go true a true g = absurd (h (e ∙ sym (by-none a g)))
      go true a false g = refl
      go false a d g = refl

  -- the first is the sheet's where it is not 10
  pub of-sheet : (n : ℕ) → n ≡ first (checks_in s m f k t []) → (n ≡ 0 → ⊥) → (n ≡ 10 → ⊥) → n ≡ first (sheet_checks s)
  of-sheet n e h d = e ∙ whole [] ∙ go (clear (sheet_checks s)) refl (kept_in s m f k t) refl
    where
      go : (b : Bool) → clear (sheet_checks s) ≡ b → (y : Bool) → kept_in s m f k t ≡ y → pick b (pick (not y) 10 0) (first (sheet_checks s)) ≡ first (sheet_checks s)
      go true a true g = absurd (h (e ∙ sym (by-none a g)))
      go true a false g = absurd (d (e ∙ sym (by-record a g)))
      go false a y g = refl

  pub kept-is : Kept s m f k t → kept_in s m f k t ≡ true
  kept-is p = rw (p.passed.sound, p.movers) (same-i eqb (λ x. eq-eqb x x refl) (last_movers max_bases (lines_in (bases_of s) f)))

  -- where none of 1 to 10 holds, the call's own are left
  pub passed_first : Kept s m f k t → (own : List Check) → first (checks_in s m f k t own) ≡ first own
  passed_first p own = whole own ∙ rw (p.passed.accepted, kept-is p)

  pub passed-clear : Kept s m f k t → (own : List Check) → clear (checks_in s m f k t own) ≡ clear own
  passed-clear p own = none own ∙ rw (p.passed.accepted, kept-is p)
