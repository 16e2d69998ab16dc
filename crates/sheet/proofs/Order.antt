-- Laws of checks in order: the first that holds in two lists, one after the other; none holds where the first is 0.
-- Then the checks of the transitions from one on. Assumes nothing.
use mathlib.Core.Path.{◌≡◌, refl, sym, ◌∙◌}
use mathlib.Core.Bool.{Bool, true, false, not, ◌&&◌}
use mathlib.Core.List.{List, [], ◌∷◌, ◌++◌}
use Prim.Native.Nat.{ℕ, zero, suc, ◌+◌, ◌-◌, ◌<◌}
use native.Mathlib.Omega.{arith}
use lib.Dec.{eqb, ltb}
use borrow.Author.Tests.{ltb-true, ne_eqb}
use Rattle.std.proofs.Common.{Some, None, unwrap_or}
use Rattle.std.specs.Option.{is_some}
use Rattle.net.specs.Tests.{pick, all}
use Rattle.net.specs.Checks.{Check, clear, first, numbers, verdict_number}
use Rattle.net.specs.Journal.{transition}
use Rattle.net.proofs.Tests.{and_l, and_r}
use Rattle.format.specs.Parts.{transitions_of}
use Rattle.sheet.specs.Checks.{refusal, head_checks, transition_checks, checks_from, sheet_checks, checked}
use Rattle.net.specs.declared.Verdict.TheVariants.{Accepted, Refused}

-- ---- any list of checks

-- the numbers are above 0, so 0 says that none holds
abbrev numbered : List Check → Bool
numbered cs = all (λ (c : Check). ltb 0 c.number) cs

pub clear_first : (cs : List Check) → numbered cs ≡ true → clear cs ≡ eqb (first cs) 0
clear_first [] h = refl
clear_first (c ∷ cs) h = go c.holds (clear_first cs (and_r (ltb 0 c.number) (numbered cs) h))
  where
    go : (b : Bool) → clear cs ≡ eqb (first cs) 0 → (not b && clear cs) ≡ eqb (pick b c.number (first cs)) 0
    go true e = let k : 0 < c.number = ltb-true 0 c.number (and_l (ltb 0 c.number) (numbered cs) h) in sym (ne_eqb c.number 0 (λ q. omega arith))
    go false e = e

-- the first of two lists: that of the second where none of the first holds
pub first-append : (cs ds : List Check) → numbered cs ≡ true → first (cs ++ ds) ≡ pick (eqb (first cs) 0) (first ds) (first cs)
first-append [] ds h = refl
first-append (c ∷ cs) ds h = go c.holds (first-append cs ds (and_r (ltb 0 c.number) (numbered cs) h))
  where
    go : (b : Bool) → first (cs ++ ds) ≡ pick (eqb (first cs) 0) (first ds) (first cs)
        → pick b c.number (first (cs ++ ds)) ≡ pick (eqb (pick b c.number (first cs)) 0) (first ds) (pick b c.number (first cs))
    go true e = let k : 0 < c.number = ltb-true 0 c.number (and_l (ltb 0 c.number) (numbered cs) h) in rw (ne_eqb c.number 0 (λ q. omega arith))
    go false e = e

-- the first that holds, as an option
pub refusal_left : (cs ds : List Check) (n : ℕ) → refusal cs ≡ Some n → refusal (cs ++ ds) ≡ Some n
refusal_left [] ds n e = absurd (cc)
refusal_left (c ∷ cs) ds n e = go c.holds (refusal_left cs ds n) e
  where
    go : (b : Bool) → (refusal cs ≡ Some n → refusal (cs ++ ds) ≡ Some n) → pick b (Some c.number) (refusal cs) ≡ Some n → pick b (Some c.number) (refusal (cs ++ ds)) ≡ Some n
    go true rest d = d
    go false rest d = rest d

pub refusal_on : (cs ds : List Check) → refusal cs ≡ None → refusal (cs ++ ds) ≡ refusal ds
refusal_on [] ds e = refl
refusal_on (c ∷ cs) ds e = go c.holds (refusal_on cs ds) e
  where
    go : (b : Bool) → (refusal cs ≡ None → refusal (cs ++ ds) ≡ refusal ds) → pick b (Some c.number) (refusal cs) ≡ None → pick b (Some c.number) (refusal (cs ++ ds)) ≡ refusal ds
    go true rest d = absurd (cc)
    go false rest d = rest d

pub first_refusal : (cs : List Check) → first cs ≡ unwrap_or (refusal cs) 0
first_refusal [] = refl
first_refusal (c ∷ cs) = go c.holds (first_refusal cs)
  where
    go : (b : Bool) → first cs ≡ unwrap_or (refusal cs) 0 → pick b c.number (first cs) ≡ unwrap_or (pick b (Some c.number) (refusal cs)) 0
    go true rest = refl
    go false rest = rest

pub clear_refusal : (cs : List Check) → clear cs ≡ not (is_some (refusal cs))
clear_refusal [] = refl
clear_refusal (c ∷ cs) = go c.holds (clear_refusal cs)
  where
    go : (b : Bool) → clear cs ≡ not (is_some (refusal cs)) → (not b && clear cs) ≡ not (is_some (pick b (Some c.number) (refusal cs)))
    go true rest = refl
    go false rest = rest

-- ---- the numbers, in checking order

pub head-numbers : (s : List ℕ) → numbers (head_checks s) ≡ 1 ∷ 2 ∷ 3 ∷ 4 ∷ 5 ∷ 6 ∷ []
head-numbers s = refl

-- each transition for 7, 8, 9 before the next
pub transition-numbers : (s : List ℕ) (k : ℕ) → numbers (checks_from s k 2) ≡ 7 ∷ 8 ∷ 9 ∷ 7 ∷ 8 ∷ 9 ∷ []
transition-numbers s k = refl

-- ---- the transitions from k on

pub refusals-from : (s : List ℕ) (k n : ℕ) → 0 < n → refusal (transition_checks s (transition k)) ≡ None → refusal (checks_from s k n) ≡ refusal (checks_from s (k + 1) (n - 1))
refusals-from s k zero h e = absurd (let z : ⊥ = omega arith in z)
refusals-from s k (suc n) h e =
    let z : suc n - 1 ≡ n = omega arith in
    refusal_on (transition_checks s (transition k)) (checks_from s (k + 1) n) e ∙ rw z

from-numbered : (s : List ℕ) (k n : ℕ) → numbered (checks_from s k n) ≡ true
from-numbered s k zero = refl
from-numbered s k (suc n) = from-numbered s (k + 1) n

-- ---- the whole sheet

module _ (s : List ℕ) where
  pub none_first : clear (sheet_checks s) ≡ eqb (first (sheet_checks s)) 0
  unfolding sheet_checks
  none_first = clear_first (head_checks s ++ checks_from s 0 (transitions_of s)) (from-numbered s 0 (transitions_of s))

  -- the answer's number is that of the first check that holds, 0 where none does
  pub answer-number : verdict_number (checked s) ≡ first (sheet_checks s)
  unfolding checked
  answer-number = rw none_first (go (first (sheet_checks s)))
    where
      go : (n : ℕ) → verdict_number (pick (eqb n 0) Accepted (Refused n)) ≡ n
      go zero = refl
      go (suc n) = rw (ne_eqb (suc n) 0 (λ q. omega arith))
