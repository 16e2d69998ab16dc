-- Bases grouped by label: what the first entry of a group gives.
-- Definitions only. A labelling is a function from bases to labels.
use Rattle.std.specs.Prelude.{Bool, List, [], ◌∷◌, ℕ, eqb}
use Rattle.net.specs.Tests.{pick}
use Rattle.net.specs.declared.Entry.{Entry}

-- the place that the first entry whose base has the label x gives; d where there is none
abbrev pub firsts : (Entry → ℕ) → (ℕ → ℕ) → List Entry → ℕ → ℕ → ℕ
firsts give lab [] d x = d
firsts give lab (e ∷ es) d x = pick (eqb (lab e.base) x) (give e) (firsts give lab es d x)

-- the place that an entry gives: the out-place, or the in-place on taking back
abbrev pub side : Bool → Entry → ℕ
side back e = pick back e.from e.to
