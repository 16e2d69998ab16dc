-- The live firings searched: the last key, and the firing of a key.
-- Definitions only. The first k entries of an array are live.
use Rattle.std.specs.Prelude.{List, ℕ, ◌-◌, eqb, get_or}
use Rattle.net.specs.Tests.{pick, table, first_at}
use Rattle.net.specs.Journal.{key}
use Rattle.net.specs.declared.Key.{Key}

-- the live keys
abbrev pub keys_in : ℕ → List ℕ → List ℕ
keys_in k keys = table k (λ i. get_or keys i 0)

-- the key of the last live firing; 0 where none is live
abbrev pub last_key : ℕ → List ℕ → Key
last_key k keys = pick (eqb k 0) (key 0) (key (get_or keys (k - 1) 0))

-- where the first of that key stands; the length of the list where there is none
abbrev pub index_of : Key → List ℕ → ℕ
index_of k xs = first_at (λ x. eqb x k.0) xs
