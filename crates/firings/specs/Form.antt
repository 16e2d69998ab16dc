-- The form of live firings in arrays (01, commands, record, tally): unused entries hold 0, keys strictly ascend.
-- Definitions only. n is the number of bases.
use Rattle.std.specs.Prelude.{Bool, true, ◌&&◌, List, [], ◌∷◌, ℕ, ◌-◌, ◌^◌, ltb, leb, get_or}
use Rattle.net.specs.Limits.{max_key}
use Rattle.net.specs.Tests.{all, table}
use Rattle.marking.specs.Form.{zero_from}
use Rattle.firings.specs.declared.Firings.{Firings}

-- no set is above the set `top`, as words
abbrev pub all_within : ℕ → List ℕ → Bool
all_within top ws = all (λ w. leb w top) ws

-- no base from the number of bases on is in the set of a live firing: as a word it is not above the set of all n
abbrev pub used_in_form : ℕ → Firings → Bool
used_in_form n f = all_within (2 ^ n - 1) (table f.live (λ i. get_or f.moved i 0))

-- every entry after the live firings holds 0
abbrev pub unused_in_form : Firings → Bool
unused_in_form f = zero_from f.live f.transitions && (zero_from f.live f.keys && zero_from f.live f.moved)

-- the form of the live firings
abbrev pub firings_in_form : ℕ → Firings → Bool
firings_in_form n f = used_in_form n f && unused_in_form f

-- each is above the one before, the first above `last`, and none is above the highest key
abbrev pub climbs : ℕ → List ℕ → Bool
climbs last [] = true
climbs last (k ∷ ks) = (ltb last k && leb k max_key) && climbs k ks
