-- Laws of sets of bases: the bases of one of two; two without a common one.
-- Assumes nothing.
use mathlib.Core.Path.{◌≡◌, ◌∙◌}
use mathlib.Core.Bool.{Bool, true, false}
use mathlib.Core.List.{List}
use Prim.Native.Nat.{ℕ}
use Rattle.causal.specs.Reorderings.{Independent}
use Rattle.causal.proofs.Tests.{both}
use Rattle.net.specs.Firing.{in_set}
use Rattle.net.specs.Journal.{common}
use Rattle.net.proofs.Tests.{or_l, or_r, fails}
use Rattle.net.proofs.Keys.{common-i}
use Rattle.words.specs.Sets.{either}
use Rattle.words.proofs.Bits.{either-at}

pub common-no : (m n : List Bool) → common m n ≡ false → Independent in_set m n
common-no m n h p q = fails (in_set n p) (λ e. both (common m n) (common-i m n p q e) h)

pub either_l : (m n : List Bool) (p : ℕ) → in_set m p ≡ true → in_set (either m n) p ≡ true
either_l m n p e = either-at m n p ∙ or_l (in_set m p) (in_set n p) e

pub either_r : (m n : List Bool) (p : ℕ) → in_set n p ≡ true → in_set (either m n) p ≡ true
either_r m n p e = either-at m n p ∙ or_r (in_set m p) (in_set n p) e
