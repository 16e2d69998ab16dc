-- Bonds that lie in two lists of ends, lo and hi: the bond at i has the ends lo i and hi i.
-- Definitions only.
use Rattle.std.specs.Prelude.{List, ℕ, get_or}
use Rattle.net.specs.Tests.{count, table}
use Rattle.net.specs.Net.{bond, less_bond}
use Rattle.net.specs.declared.Bond.{Bond}

-- the bond at i
abbrev pub ends : List ℕ → List ℕ → ℕ → Bond
ends lo hi i = bond (get_or lo i 0) (get_or hi i 0)

-- the first n bonds
abbrev pub bonds_in : List ℕ → List ℕ → ℕ → List Bond
bonds_in lo hi n = table n (ends lo hi)

-- how many of them are less than b
abbrev pub rank_in : List ℕ → List ℕ → ℕ → Bond → ℕ
rank_in lo hi n b = count (λ (c : Bond). less_bond c b) (bonds_in lo hi n)
