-- Membership and order in a list, and elements told apart by a key. Each is by recursion on the list.
-- Definitions only.
use Rattle.std.specs.Prelude.{◌≡◌, ◌⊎◌, ◌≢◌, List, [], ◌∷◌}

module _ {X : Type 0} where
  -- a is an element
  abbrev pub Mem : X → List X → Type 0
  Mem a [] = ⊥
  Mem a (x ∷ xs) = (a ≡ x) ⊎ Mem a xs

  -- a stands before b
  abbrev pub Before : X → X → List X → Type 0
  Before a b [] = ⊥
  Before a b (x ∷ xs) = ((a ≡ x) × Mem b xs) ⊎ Before a b xs

module _ {X K : Type 0} (key : X → K) where
  -- no two elements have one key
  abbrev pub Distinct : List X → Type 0
  Distinct [] = Unit {0}
  Distinct (x ∷ xs) = ((a : X) → Mem a xs → key a ≢ key x) × Distinct xs
