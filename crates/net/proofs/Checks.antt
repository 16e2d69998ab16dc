-- Laws of numbered checks: where none holds, the one of a given number does not. A check is cited by its number, never
-- by its position. Assumes nothing.
use mathlib.Core.Path.{◌≡◌, refl}
use mathlib.Core.Bool.{Bool, true, false, not, ◌&&◌}
use mathlib.Core.List.{List, [], ◌∷◌, ◌++◌}
use Prim.Native.Nat.{ℕ}
use lib.Dec.{eqb}
use borrow.Author.Tests.{not-true}
use Rattle.causal.proofs.Tests.{both}
use Rattle.net.specs.Tests.{pick, all}
use Rattle.net.specs.Checks.{Check, clear, first}
use Rattle.net.proofs.Tests.{and_l, and_r, pick-case, all_append}

-- the test of the check of that number
abbrev pub test_of : ℕ → List Check → Bool
test_of k [] = false
test_of k (c ∷ cs) = pick (eqb c.number k) c.holds (test_of k cs)

pub clear-off : (cs : List Check) → clear cs ≡ true → (k : ℕ) → test_of k cs ≡ false
clear-off [] e k = refl
clear-off (c ∷ cs) e k = pick-case (λ (b : Bool). b ≡ false) (eqb c.number k) c.holds (test_of k cs)
    (λ _. not-true c.holds (and_l (not c.holds) (clear cs) e)) (λ _. clear-off cs (and_r (not c.holds) (clear cs) e) k)

pub clear-append : (cs ds : List Check) → clear (cs ++ ds) ≡ (clear cs && clear ds)
clear-append cs ds = all_append (λ (c : Check). not c.holds) cs ds

-- what holds of every number holds of the first
pub first-has : (f : ℕ → Bool) (cs : List Check) → all (λ (c : Check). f c.number) cs ≡ true → clear cs ≡ false → f (first cs) ≡ true
first-has f [] a h = both true refl h
first-has f (c ∷ cs) a h = go c.holds h (first-has f cs (and_r (f c.number) (all (λ (d : Check). f d.number) cs) a))
  where
    go : (b : Bool) → (not b && clear cs) ≡ false → (clear cs ≡ false → f (first cs) ≡ true) → f (pick b c.number (first cs)) ≡ true
    go true d ih = and_l (f c.number) (all (λ (e : Check). f e.number) cs) a
    go false d ih = ih d
