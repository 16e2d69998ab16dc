-- Sets as predicates: bases and bonds, what two sets have, and when two statements say the same.
-- Definitions only.
use Rattle.std.specs.Prelude.{◌≡◌, ◌⊎◌, ℕ, ◌<◌, ◌≤◌}
use Rattle.net.specs.declared.Bond.{Bond}

-- Each of the two follows from the other.
abbrev pub Iff : Type 0 → Type 0 → Type 0
Iff X Y = (X → Y) × (Y → X)

-- An element of A ∪ B: a base or a bond. No sheet has negative instances, so they are left out.
pub data Item : Type 0 where
  base : ℕ → Item
  bond : Bond → Item

-- A subset of A ∪ B.
abbrev pub Items : Type 1
Items = Item → Type 0

-- C ∪ D, and C − D
abbrev pub union : Items → Items → Items
union C D i = C i ⊎ D i

abbrev pub minus : Items → Items → Items
minus C D i = C i × (D i → ⊥)

-- β = (a, b); bonds are undirected, so either end may come first
abbrev pub Between : ℕ → ℕ → Bond → Type 0
Between a b β = ((β.lo ≡ a) × (β.hi ≡ b)) ⊎ ((β.lo ≡ b) × (β.hi ≡ a))

-- A set of numbers is finite: all are below some number.
abbrev pub Finite : (ℕ → Type 0) → Type 0
Finite S = (n : ℕ) × ((k : ℕ) → S k → k < n)

-- k = max(S)
abbrev pub Max : (ℕ → Type 0) → ℕ → Type 0
Max S k = S k × ((j : ℕ) → S j → j ≤ k)
