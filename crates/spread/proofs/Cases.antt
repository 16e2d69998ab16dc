-- A chain of three firings, computed: the second shares a base with the first, the third with the second alone (02, T-08).
-- Assumes nothing.
use mathlib.Core.Path.{◌≡◌, refl}
use mathlib.Core.Bool.{true, false}
use mathlib.Core.List.{List, [], ◌∷◌}
use Rattle.net.specs.Journal.{LiveLine, key}
use Rattle.net.specs.Cases.{line}
use Rattle.spread.specs.Depends.{spread_of, remaining}

abbrev chain : List LiveLine
chain = line 0 1 (true ∷ false ∷ false ∷ false ∷ []) ∷ line 1 2 (true ∷ true ∷ false ∷ false ∷ []) ∷ line 2 3 (false ∷ false ∷ false ∷ true ∷ []) ∷ line 3 4 (false ∷ true ∷ true ∷ false ∷ []) ∷ []

-- the first spreads through the second to what the last moved; the third stands beside it
pub through-others : spread_of (key 1) chain ≡ true ∷ true ∷ true ∷ false ∷ []
through-others = refl

pub beside : remaining (key 1) chain ≡ line 2 3 (false ∷ false ∷ false ∷ true ∷ []) ∷ []
beside = refl

-- and the last to its own alone
pub not_back : spread_of (key 4) chain ≡ false ∷ true ∷ true ∷ false ∷ []
not_back = refl
