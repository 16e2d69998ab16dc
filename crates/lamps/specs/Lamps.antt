-- The lamps of a record's live firings (02, T-06: the bench panel), and the answer to a call for them.
-- Definitions only. t is the table of last movers, ls the lines.
use Rattle.std.specs.Prelude.{Bool, false, ◌&&◌, List, ℕ, ltb, length, get_or, replicate}
use Rattle.net.specs.Limits.{max_bases, max_live}
use Rattle.net.specs.Tests.{table}
use Rattle.net.specs.Journal.{LiveLine, no_line}
use Rattle.movers.specs.Lamp.{lamp}
use Rattle.net.specs.declared.Verdict.TheVariants.{Accepted, Refused}
use Rattle.lamps.specs.declared.Lamps.{Lamps}

-- the lamp of the live firing at i, by its own key; no after the live ones
abbrev pub flag_at : List ℕ → List LiveLine → ℕ → Bool
flag_at t ls i = ltb i (length ls) && lamp max_bases t ls (get_or ls i no_line).key

-- as many flags as firings can be live: that of each live firing in its order, then no
abbrev pub lit_of : List ℕ → List LiveLine → List Bool
lit_of t ls = table max_live (flag_at t ls)

-- the lamps of all live firings, with their number
abbrev pub shown : List ℕ → List LiveLine → Lamps
shown t ls = record { answer = Accepted; count = length ls; lit = lit_of t ls }

-- a refused call: no lamp is lit
unfoldable pub not_shown : ℕ → Lamps
not_shown n = record { answer = Refused n; count = 0; lit = replicate max_live false }
