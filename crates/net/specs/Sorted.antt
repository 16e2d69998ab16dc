-- Lists in strictly ascending order, over an order that is given by tests: `eq` for one element, `lt` for below.
-- Definitions only.
use Rattle.std.specs.Prelude.{◌≡◌, Bool, true, false, ◌&&◌, ◌||◌, List, [], ◌∷◌}
use Rattle.net.specs.Tests.{pick}

module _ {X : Type 0} where
  -- each is below the next
  abbrev pub ascends : (X → X → Bool) → List X → Bool
  ascends lt [] = true
  ascends lt (x ∷ []) = true
  ascends lt (x ∷ y ∷ ys) = lt x y && ascends lt (y ∷ ys)

  abbrev pub has : (X → X → Bool) → X → List X → Bool
  has eq x [] = false
  has eq x (y ∷ ys) = eq x y || has eq x ys

module _ {X : Type 0} (eq lt : X → X → Bool) where
  -- each element is below all that follow: `ascends`, as a statement
  abbrev pub Ascending : List X → Type 0
  Ascending [] = Unit {0}
  Ascending (x ∷ xs) = ((y : X) → has eq y xs ≡ true → lt x y ≡ true) × Ascending xs

  -- x goes in at its place, unless it is there
  abbrev pub put : X → List X → List X
  put x [] = x ∷ []
  put x (y ∷ ys) = pick (eq x y) (y ∷ ys) (pick (lt x y) (x ∷ y ∷ ys) (y ∷ put x ys))

  -- each of the first list goes in
  abbrev pub puts : List X → List X → List X
  puts [] l = l
  puts (x ∷ xs) l = put x (puts xs l)
