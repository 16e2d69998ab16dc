-- The counts of a tally (01, commands, record, tally): one more in exactly one of them.
-- Definitions only.
use Rattle.std.specs.Prelude.{ℕ, ◌+◌, ltb, eqb}
use Rattle.net.specs.Tests.{pick}
use Rattle.tally.specs.declared.Tally.{Tally}

-- the highest count; src/lib.rt has it for the code
abbrev pub max_count : ℕ
max_count = 65535

-- one more; the highest count stays
unfoldable pub one_more : ℕ → ℕ
one_more n = pick (ltb n max_count) (n + 1) n

-- 0 adds to fired, 1 to undone, any other number to refused
unfoldable pub counted_of : Tally → ℕ → Tally
counted_of t which =
    pick (eqb which 0) (record { fired = one_more t.fired; undone = t.undone; refused = t.refused })
    (pick (eqb which 1) (record { fired = t.fired; undone = one_more t.undone; refused = t.refused })
    (record { fired = t.fired; undone = t.undone; refused = one_more t.refused }))

-- a tally that begins
abbrev pub zero_tally : Tally
zero_tally = record { fired = 0; undone = 0; refused = 0 }
