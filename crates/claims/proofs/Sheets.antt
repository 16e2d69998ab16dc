-- Demand 1 of a sheet alone, and of starting a session on it.
-- Assumes nothing.
use mathlib.Core.Path.{◌≡◌, refl, sym, ◌∙◌, ap, subst}
use mathlib.Core.Bool.{Bool, true, false, ◌&&◌}
use mathlib.Core.List.{List}
use Prim.Native.Nat.{ℕ, zero, suc, ◌+◌, ◌≤◌}
use lib.Dec.{ltb, leb}
use borrow.Author.Tests.{eqb-true, ltb-true, leb-true}
use Rattle.causal.proofs.Tests.{test, both}
use Rattle.net.specs.Tests.{pick, all}
use Rattle.net.specs.Checks.{Check, clear, first, verdict_number}
use Rattle.net.proofs.Tests.{and_l, and_r}
use Rattle.format.specs.Parts.{transitions_of}
use Rattle.sheet.specs.Checks.{checks_from, sheet_checks, checked}
use Rattle.net.specs.declared.Verdict.{Verdict}
use Rattle.net.specs.declared.Verdict.TheVariants.{Accepted, Refused}
use Rattle.sheet.proofs.Order.{clear_first}
use Rattle.session.specs.Commands.{fresh_of, zero_record, start_of}
use Rattle.session.specs.declared.Start.{Start}
use Rattle.sound.proofs.Refusing.{sheet-positive}
use Rattle.claims.specs.Demands.{FirstHolds, SheetAnswered, SheetStarts}
use Rattle.net.proofs.Checks.{first-has}
use Rattle.claims.proofs.Checks.{first_found, found_first}

-- ---- the numbers are 1 to 9

abbrev pub one_to : ℕ → ℕ → Bool
one_to m n = ltb 0 n && leb n m

pub one-to : (m n : ℕ) → one_to m n ≡ true → (1 ≤ n) × (n ≤ m)
one-to m n h = (ltb-true 0 n (and_l (ltb 0 n) (leb n m) h), leb-true n m (and_r (ltb 0 n) (leb n m) h))

from-within : (s : List ℕ) (k n : ℕ) → all (λ (c : Check). one_to 9 c.number) (checks_from s k n) ≡ true
from-within s k zero = refl
from-within s k (suc n) = from-within s (k + 1) n

pub sheet-within : (s : List ℕ) → all (λ (c : Check). one_to 9 c.number) (sheet_checks s) ≡ true
unfolding sheet_checks
sheet-within s = from-within s 0 (transitions_of s)

-- ---- the answer

abbrev is_accepted : Verdict → Bool
is_accepted Accepted = true
is_accepted (Refused n) = false

module _ (s : List ℕ) where
  when-clear : clear (sheet_checks s) ≡ true → checked s ≡ Accepted
  unfolding checked
  when-clear h = ap (λ (b : Bool). pick b Accepted (Refused (first (sheet_checks s)))) h

  when-held : clear (sheet_checks s) ≡ false → checked s ≡ Refused (first (sheet_checks s))
  unfolding checked
  when-held h = ap (λ (b : Bool). pick b Accepted (Refused (first (sheet_checks s)))) h

  accepted-clear : checked s ≡ Accepted → clear (sheet_checks s) ≡ true
  accepted-clear e = test (clear (sheet_checks s)) (λ h. h) (λ h. absurd (apart (sym (when-held h) ∙ e)))
    where
      apart : {n : ℕ} → Refused n ≡ Accepted → ⊥
      apart q = both false (ap is_accepted q) refl

  refused-held : (n : ℕ) → checked s ≡ Refused n → (clear (sheet_checks s) ≡ false) × (first (sheet_checks s) ≡ n)
  refused-held n e = test (clear (sheet_checks s)) (λ h. absurd (apart (sym (when-clear h) ∙ e))) (λ h. (h, ap verdict_number (sym (when-held h) ∙ e)))
    where
      apart : Accepted ≡ Refused n → ⊥
      apart q = both true refl (ap is_accepted q)

  pub sheet-answered : SheetAnswered s
  sheet-answered = record {
    accepted = (accepted-clear, when-clear);
    refused = λ n. (
      (λ e. let (h, q) = refused-held n e in subst (λ (k : ℕ). FirstHolds k (sheet_checks s)) q (first_found (sheet_checks s) h)),
      (λ (before, after, e, h). let (q, k) = found_first n before after h in when-held (ap clear e ∙ k) ∙ ap Refused (ap first e ∙ q)),
    );
    numbers = λ n e.
        let (h, q) = refused-held n e in
        one-to 9 n (subst (λ (k : ℕ). one_to 9 k ≡ true) q (first-has (one_to 9) (sheet_checks s) (sheet-within s) h));
    number = test (clear (sheet_checks s))
        (λ h. ap verdict_number (when-clear h) ∙ sym (eqb-true (first (sheet_checks s)) 0 (sym (clear_first (sheet_checks s) (sheet-positive s)) ∙ h)))
        (λ h. ap verdict_number (when-held h));
  }

  -- ---- starting

  starts-fresh : clear (sheet_checks s) ≡ true → start_of s ≡ record { answer = Accepted; session = fresh_of s }
  unfolding start_of
  starts-fresh h = ap (λ (b : Bool). pick b (record { answer = Accepted; session = fresh_of s }) (record { answer = Refused (first (sheet_checks s)); session = zero_record })) h

  starts-not : clear (sheet_checks s) ≡ false → start_of s ≡ record { answer = Refused (first (sheet_checks s)); session = zero_record }
  unfolding start_of
  starts-not h = ap (λ (b : Bool). pick b (record { answer = Accepted; session = fresh_of s }) (record { answer = Refused (first (sheet_checks s)); session = zero_record })) h

  pub sheet-starts : SheetStarts s
  sheet-starts = record {
    accepted = λ e. starts-fresh (accepted-clear e);
    refused = λ n e. let (h, q) = refused-held n e in starts-not h ∙ ap (λ (k : ℕ). record { answer = Refused k; session = zero_record }) q;
    number = test (clear (sheet_checks s))
        (λ h. ap (λ (y : Start). verdict_number y.answer) (starts-fresh h) ∙ sym (ap verdict_number (when-clear h)))
        (λ h. ap (λ (y : Start). verdict_number y.answer) (starts-not h) ∙ sym (ap verdict_number (when-held h)));
  }
