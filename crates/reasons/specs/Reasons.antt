-- The conditions of refusals 13 to 16 and 20, of one entry, coupling, firing or base (01, the turned-away list).
-- Definitions only. Each is the test of a definition of net or firings, of what that definition asks it.
use Rattle.std.specs.Prelude.{Bool, not, ◌&&◌, List, ℕ, suc, ◌+◌, eqb, get_or, drop}
use Rattle.net.specs.Limits.{max_bases}
use Rattle.net.specs.Tests.{any, table, first_at}
use Rattle.net.specs.Net.{Arcs, Marking, has_bond}
use Rattle.net.specs.Connection.{connected}
use Rattle.net.specs.Firing.{in_set, bonds_seen}
use Rattle.net.specs.Journal.{LiveLine, no_line, common}
use Rattle.net.specs.declared.Bond.{Bond}
use Rattle.net.specs.declared.Entry.{Entry}

-- 13: an entry's base is not at its in-place
abbrev pub away_from : List ℕ → Entry → Bool
away_from places e = not (eqb (get_or places e.base 0) e.from)

-- 14: a coupling is not among bs
abbrev pub absent_from : List Bond → Bond → Bool
absent_from bs b = not (has_bond b bs)

-- 15: a coupling is no in-coupling, and is among bs
abbrev pub present_in : List Bond → List Bond → Bond → Bool
present_in ins bs b = not (has_bond b ins) && has_bond b bs

-- 16: two entries of a step have connected bases and different out-places
abbrev pub torn_from : Arcs → Marking → Entry → Entry → Bool
torn_from t s e d = connected (bonds_seen t s.bonds) e.base d.base && not (eqb e.to d.to)

-- 16: an entry has such a partner
abbrev pub has_partner : Arcs → Marking → Entry → Bool
has_partner t s e = any (torn_from t s e) t.entries

-- 20: a line after l moved a base that l moved
abbrev pub built_after : LiveLine → LiveLine → Bool
built_after l k = common l.moved k.moved

-- 20: where the first such line stands after the one at i; the number of lines where there is none
abbrev pub later_at : List LiveLine → ℕ → ℕ
later_at ls i = suc i + first_at (built_after (get_or ls i no_line)) (drop (suc i) ls)

-- 20: a base is in both sets
abbrev pub in_both : List Bool → List Bool → ℕ → Bool
in_both a b p = in_set a p && in_set b p

-- 20: the first such base, of those that a sheet can have; their number where there is none
abbrev pub common_at : List Bool → List Bool → ℕ
common_at a b = first_at (in_both a b) (table max_bases (λ p. p))
