-- A list, given by its elements, with one element more or one less.
-- Definitions only.
use Rattle.std.specs.Prelude.{ℕ, ◌+◌, ◌-◌, eqb, ltb}
use Rattle.net.specs.Tests.{pick}

module _ {X : Type 0} where
  -- x stands at k, and what stood there and after it stands one further
  abbrev pub slot : ℕ → X → (ℕ → X) → ℕ → X
  slot k x f j = pick (ltb j k) (f j) (pick (eqb j k) x (f (j - 1)))

  -- what stood at k is gone, and what stood after it stands one nearer
  abbrev pub gap : ℕ → (ℕ → X) → ℕ → X
  gap k f j = pick (ltb j k) (f j) (f (j + 1))
