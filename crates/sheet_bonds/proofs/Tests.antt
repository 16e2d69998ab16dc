-- Names for the tests of one entry that the rules write out.
-- Assumes nothing.
use Prim.Native.Nat.{ℕ}
use mathlib.Core.Bool.{Bool, ◌&&◌}
use mathlib.Core.List.{List}
use lib.Dec.{eqb}
use Rattle.net.specs.Tests.{any}
use Rattle.net.specs.declared.Bond.{Bond}
use Rattle.net.specs.declared.Entry.{Entry}
use Rattle.sheet_bonds.specs.Sides.{side_of}

-- (9) d is the entry of `hi`, and its place on that side is `at`
abbrev pub partner : Bool → ℕ → ℕ → Entry → Bool
partner out hi at d = eqb d.base hi && eqb at (side_of out d)

-- (9) e is the entry of the lower base of x, and the entry of the higher one agrees with it
abbrev pub starting : Bool → List Entry → Bond → Entry → Bool
starting out es x e = eqb e.base x.lo && any (partner out x.hi (side_of out e)) es
