-- Going by cases on a test, with its equation at hand.
-- Assumes nothing.
use mathlib.Core.Path.{◌≡◌, refl, sym, ◌∙◌}
use mathlib.Core.Bool.{Bool, true, false, true≢false}

pub test : {C : Type 0} (b : Bool) → (b ≡ true → C) → (b ≡ false → C) → C
test true f g = f refl
test false f g = g refl

-- a test that passes and fails proves anything
pub both : {C : Type 0} (b : Bool) → b ≡ true → b ≡ false → C
both b p q = absurd (true≢false (sym p ∙ q))
