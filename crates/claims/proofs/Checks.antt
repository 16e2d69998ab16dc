-- Lists of checks: the first that holds, found and told; the checks of a record, which are the sheet's and soundness.
-- Assumes nothing.
use mathlib.Core.Path.{◌≡◌, refl, sym, ◌∙◌}
use mathlib.Core.Bool.{Bool, true, false, not, ◌&&◌}
use mathlib.Core.List.{List, [], ◌∷◌, ◌++◌}
use Prim.Native.Nat.{ℕ}
use Rattle.causal.proofs.Tests.{both}
use Rattle.net.specs.Tests.{pick}
use Rattle.net.specs.Checks.{Check, check, clear, first}
use Rattle.net.proofs.Checks.{clear-append}
use Rattle.sheet.specs.Checks.{sheet_checks}
use Rattle.session.specs.Records.{sound_for}
use Rattle.session.specs.Commands.{record_checks}
use Rattle.session.specs.declared.Record.{Record}
use Rattle.claims.specs.Demands.{FirstHolds}

-- where some check holds, the first that does is found
pub first_found : (cs : List Check) → clear cs ≡ false → FirstHolds (first cs) cs
first_found [] h = both true refl h
first_found (c ∷ cs) h = go c.holds refl h (first_found cs)
  where
    go : (b : Bool) → c.holds ≡ b → (not b && clear cs) ≡ false → (clear cs ≡ false → FirstHolds (first cs) cs) → FirstHolds (pick b c.number (first cs)) (c ∷ cs)
    go true e d ih = ([], cs, (λ i. record { number = c.number; holds = e i } ∷ cs), refl)
    go false e d ih = let (before, after, q, k) = ih d in (c ∷ before, after, (λ i. c ∷ q i), rw e k)

pub found_first : (n : ℕ) (before after : List Check) → clear before ≡ true → (first (before ++ check n true ∷ after) ≡ n) × (clear (before ++ check n true ∷ after) ≡ false)
found_first n [] after h = (refl, refl)
found_first n (c ∷ before) after h = go c.holds h (found_first n before after)
  where
    go : (b : Bool) → (not b && clear before) ≡ true
        → (clear before ≡ true → (first (before ++ check n true ∷ after) ≡ n) × (clear (before ++ check n true ∷ after) ≡ false))
        → (pick b c.number (first (before ++ check n true ∷ after)) ≡ n) × ((not b && clear (before ++ check n true ∷ after)) ≡ false)
    go true d ih = both false d refl
    go false d ih = ih d

-- ---- 1 to 10

two : (a b : Bool) → (a && (not (not b) && true)) ≡ true → (a ≡ true) × (b ≡ true)
two true true e = (refl, refl)
two true false e = both false e refl
two false b e = both false e refl

module _ (s : List ℕ) (r : Record) where
  pub record-clear : clear (record_checks s r []) ≡ (clear (sheet_checks s) && (not (not (sound_for s r)) && true))
  record-clear = clear-append (sheet_checks s) (check 10 (not (sound_for s r)) ∷ [])

  pub record-passes : clear (record_checks s r []) ≡ true → (clear (sheet_checks s) ≡ true) × (sound_for s r ≡ true)
  record-passes h = two (clear (sheet_checks s)) (sound_for s r) (sym record-clear ∙ h)
