-- How reading ended: how many bytes are there, and a fact of them where they are all that were asked for.
-- Definitions only.
use Rattle.std.specs.Prelude.{ℕ}
use Rattle.reading.specs.declared.Got.{Got}
use Rattle.reading.specs.declared.Got.TheVariants.{Full, Ended, Failed}

-- how many bytes are there
abbrev pub got_bytes : Got → ℕ
got_bytes (Full n) = n
got_bytes (Ended n) = n
got_bytes (Failed n) = n

-- where they are all that were asked for, P holds of how many they are
abbrev pub IfFull : Got → (ℕ → Type 0) → Type 0
IfFull (Full n) P = P n
IfFull (Ended n) P = Unit {0}
IfFull (Failed n) P = Unit {0}
