-- Laws of the journal's lines that the published history needs: the highest key, what was built on a line.
-- Assumes nothing.
use mathlib.Core.Path.{◌≡◌, refl}
use mathlib.Core.Logic.{◌⊎◌, inl, inr}
use mathlib.Core.Bool.{true}
use mathlib.Core.List.{List, [], ◌∷◌}
use Prim.Native.Nat.{◌<◌}
use native.Mathlib.Omega.{arith}
use lib.Dec.{leb}
use borrow.Author.Tests.{leb-true, leb-false}
use Rattle.causal.specs.Lists.{Mem}
use Rattle.causal.specs.Reorderings.{Dependent}
use Rattle.causal.proofs.Tests.{test}
use Rattle.net.specs.Firing.{in_set}
use Rattle.net.specs.Journal.{LiveLine, highest_live, built_on}
use Rattle.net.proofs.Keys.{built-e, built-i, common-e, common-i}

-- ---- the highest key

pub highest-is : (ls : List LiveLine) → ((highest_live ls).0 ≡ 0) ⊎ ((l : LiveLine) × Mem l ls × (l.key.0 ≡ (highest_live ls).0))
highest-is [] = inl refl
highest-is (l ∷ ls) = test (leb (highest_live ls).0 l.key.0)
    (λ e. let a = leb-true (highest_live ls).0 l.key.0 e in inr (l, inl refl, omega arith))
    (λ e. let a = leb-false (highest_live ls).0 l.key.0 e in higher a (highest-is ls))
  where
    higher : l.key.0 < (highest_live ls).0 → ((highest_live ls).0 ≡ 0) ⊎ ((h : LiveLine) × Mem h ls × (h.key.0 ≡ (highest_live ls).0))
        → ((highest_live (l ∷ ls)).0 ≡ 0) ⊎ ((h : LiveLine) × Mem h (l ∷ ls) × (h.key.0 ≡ (highest_live (l ∷ ls)).0))
    higher a (inl e) = absurd (let z : ⊥ = omega arith in z)
    higher a (inr (h, m, e)) = inr (h, inr m, omega arith)

-- ---- refusal 20

-- a later line with a common base, and 20
pub built_on-e : (ls : List LiveLine) (l : LiveLine) → built_on ls l ≡ true → (h : LiveLine) × Mem h ls × (l.key.0 < h.key.0) × Dependent in_set l.moved h.moved
built_on-e ls l b = let (h, m, a, c) = built-e ls l b in (h, m, a, common-e l.moved h.moved c)

pub built_on-i : (ls : List LiveLine) (l h : LiveLine) → Mem h ls → l.key.0 < h.key.0 → Dependent in_set l.moved h.moved → built_on ls l ≡ true
built_on-i ls l h m a (p, u, v) = built-i ls l h m a (common-i l.moved h.moved p u v)
