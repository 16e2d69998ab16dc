-- Tests on lists, and choosing by a test: the words that the definitions of every crate are written in.
-- Definitions only.
use Rattle.std.specs.Prelude.{Bool, true, false, ◌&&◌, ◌||◌, List, [], ◌∷◌, ℕ, zero, suc, ◌+◌}

module _ {X : Type 0} where
  -- the first where the test passes, else the second
  abbrev pub pick : Bool → X → X → X
  pick true a b = a
  pick false a b = b

module _ {X : Type 0} where
  abbrev pub all : (X → Bool) → List X → Bool
  all f [] = true
  all f (x ∷ xs) = f x && all f xs

  abbrev pub any : (X → Bool) → List X → Bool
  any f [] = false
  any f (x ∷ xs) = f x || any f xs

  -- how many pass
  abbrev pub count : (X → Bool) → List X → ℕ
  count f [] = 0
  count f (x ∷ xs) = pick (f x) 1 0 + count f xs

  -- only what passes stays, in its order
  abbrev pub keep : (X → Bool) → List X → List X
  keep f [] = []
  keep f (x ∷ xs) = pick (f x) (x ∷ keep f xs) (keep f xs)

  -- the number of the first that passes; the list's length where none does
  abbrev pub first_at : (X → Bool) → List X → ℕ
  first_at f [] = 0
  first_at f (x ∷ xs) = pick (f x) 0 (suc (first_at f xs))

  -- the two lists have the same elements in the same order
  abbrev pub same_list : (X → X → Bool) → List X → List X → Bool
  same_list eq [] [] = true
  same_list eq [] (y ∷ ys) = false
  same_list eq (x ∷ xs) [] = false
  same_list eq (x ∷ xs) (y ∷ ys) = eq x y && same_list eq xs ys

  -- f 0, f 1, .., f (n - 1)
  abbrev pub table : ℕ → (ℕ → X) → List X
  table zero f = []
  table (suc n) f = f zero ∷ table n (λ k. f (suc k))
