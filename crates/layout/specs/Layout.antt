-- A wanted layout (02, T-04): a list of bytes, one for each base: the place where it is wanted, or 255.
-- Definitions only.
use Rattle.std.specs.Prelude.{Bool, not, ◌&&◌, ◌||◌, List, ℕ, eqb, leb, get_or, length}
use Rattle.net.specs.Tests.{any, table, first_at}

-- the byte that stands for any place
abbrev pub any_place : ℕ
any_place = 255

-- the byte names a place that is not on a sheet of so many
abbrev pub no_such_place : ℕ → ℕ → Bool
no_such_place places x = not (eqb x any_place) && leb places x

-- Refusal 27: not one byte for each base, or one that names a place which is not there.
abbrev pub unfit_layout : ℕ → ℕ → List ℕ → Bool
unfit_layout bases places w = not (eqb (length w) bases) || any (no_such_place places) w

-- a base that is wanted at x is somewhere else
abbrev pub elsewhere : ℕ → ℕ → Bool
elsewhere x place = not (eqb x any_place) && not (eqb place x)

-- the base p, by the list of places, is not where the layout wants it
abbrev pub astray : List ℕ → List ℕ → ℕ → Bool
astray w ps p = elsewhere (get_or w p 0) (get_or ps p 0)

-- the first of n bases that is not where it is wanted; n where there is none
abbrev pub wrong_base : ℕ → List ℕ → List ℕ → ℕ
wrong_base n w ps = first_at (astray w ps) (table n (λ p. p))
