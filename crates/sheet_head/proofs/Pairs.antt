-- A law of the offset rule, as a loop over the pairs meets it: it goes on behind a pair.
-- Assumes nothing.
use mathlib.Core.Path.{◌≡◌, ◌∙◌}
use mathlib.Core.Bool.{◌&&◌}
use mathlib.Core.List.{List}
use Prim.Native.Nat.{ℕ, zero, suc, ◌+◌, ◌-◌, ◌<◌}
use native.Mathlib.Omega.{arith}
use lib.Dec.{eqb}
use borrow.Author.Tests.{eq-eqb}
use Rattle.format.specs.Parts.{offset_of, length_of}
use Rattle.sheet_head.specs.Conditions.{follow}

follow-step : (s : List ℕ) (at k n : ℕ) → 0 < n → follow s at k n ≡ (eqb (offset_of s k) at && follow s (at + length_of s k) (k + 1) (n - 1))
follow-step s at k zero h = absurd (let z : ⊥ = omega arith in z)
follow-step s at k (suc n) h =
    let e : suc n - 1 ≡ n = omega arith in
    rw e

pub follow-on : (s : List ℕ) (at k n a : ℕ) → 0 < n → a ≡ offset_of s k → a ≡ at → (l : ℕ) → l ≡ length_of s k → follow s at k n ≡ follow s (at + l) (k + 1) (n - 1)
follow-on s at k n a h e d l q = follow-step s at k n h ∙ rw (← e, eq-eqb a at d, q)
