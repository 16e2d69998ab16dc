-- Bonds that are met one after the other among others: a test in one pass, by which the code tells that nothing breaks.
-- Definitions only.
use Rattle.std.specs.Prelude.{Bool, true, false, List, [], ◌∷◌}
use Rattle.net.specs.Tests.{pick}
use Rattle.net.specs.Net.{same_bond}
use Rattle.net.specs.declared.Bond.{Bond}

-- every bond of the first list is met in the second, each after the one before
abbrev pub in_line : List Bond → List Bond → Bool
in_line [] cs = true
in_line (b ∷ bs) [] = false
in_line (b ∷ bs) (c ∷ cs) = pick (same_bond b c) (in_line bs cs) (in_line (b ∷ bs) cs)
