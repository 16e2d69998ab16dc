-- For each base, the last live firing that moved it, and whether a firing can come off, by that alone (02, T-06: the lamp).
-- Definitions only. A table has n entries, one for each base that it has room for.
use Rattle.std.specs.Prelude.{Bool, not, ◌&&◌, ◌||◌, List, [], ◌∷◌, ℕ, eqb, get_or}
use Rattle.net.specs.Tests.{pick, all, table}
use Rattle.net.specs.Firing.{in_set}
use Rattle.net.specs.Journal.{LiveLine, is_live, line_of}
use Rattle.net.specs.declared.Key.{Key}

-- Going through the lines, the key in hand gives way to that of each line that moved p.
abbrev pub mover_from : ℕ → ℕ → List LiveLine → ℕ
mover_from p k [] = k
mover_from p k (l ∷ ls) = mover_from p (pick (in_set l.moved p) l.key.0 k) ls

-- the key of the last line that moved p; 0 where none did
abbrev pub last_mover : ℕ → List LiveLine → ℕ
last_mover p ls = mover_from p 0 ls

-- The table that a record keeps.
abbrev pub last_movers : ℕ → List LiveLine → List ℕ
last_movers n ls = table n (λ p. last_mover p ls)

-- Every base of the set m has the key k in the table t. Nothing else of the table is looked at.
abbrev pub key_at_all : ℕ → List ℕ → List Bool → ℕ → Bool
key_at_all n t m k = all (λ (p : ℕ). not (in_set m p) || eqb (get_or t p 0) k) (table n (λ p. p))

-- Every moved base of the line has its key in the table t.
abbrev pub on_top : ℕ → List ℕ → LiveLine → Bool
on_top n t l = key_at_all n t l.moved l.key.0

-- The lamp of a key: no where it is not live.
abbrev pub lamp : ℕ → List ℕ → List LiveLine → Key → Bool
lamp n t ls k = is_live k ls && on_top n t (line_of k ls)

-- ---- How the table changes

-- a firing: the key k at every base of its set m; the other entries stay
abbrev pub marked : ℕ → List Bool → ℕ → List ℕ → List ℕ
marked n m k t = table n (λ p. pick (in_set m p) k (get_or t p 0))

-- a taking back: at every base of its set m the key of the last of the lines that moved it; the other entries stay
abbrev pub given_back : ℕ → List LiveLine → List Bool → List ℕ → List ℕ
given_back n ls m t = table n (λ p. pick (in_set m p) (last_mover p ls) (get_or t p 0))
