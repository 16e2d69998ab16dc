-- Whether a live firing can come off, asked of a record (02, T-06): 1 to 10 are checked first.
-- Definitions only. `can_undo` and `lamps_of` fix every outcome whole.
use Rattle.std.specs.Prelude.{Bool, ◌&&◌, List, [], ℕ}
use Rattle.net.specs.Limits.{max_bases}
use Rattle.net.specs.Tests.{pick}
use Rattle.net.specs.Checks.{clear, first}
use Rattle.net.specs.declared.Key.{Key}
use Rattle.movers.specs.Lamp.{lamp}
use Rattle.lamps.specs.Lamps.{shown, not_shown}
use Rattle.lamps.specs.declared.Lamps.{Lamps}
use Rattle.session.specs.Records.{held_in}
use Rattle.session.specs.Commands.{record_checks}
use Rattle.session.specs.declared.Record.{Record}

-- The lamp of a key: no where 1 to 10 would refuse or the key is not live; else whether every base that its firing moved has
-- that key in the record's table.
unfoldable pub can_undo : List ℕ → Record → Key → Bool
can_undo s r k = clear (record_checks s r []) && lamp max_bases r.movers (held_in s r).lines k

-- every field: the lamps of the live firings in their order and their number; none is lit where the call is refused
unfoldable pub lamps_of : List ℕ → Record → Lamps
lamps_of s r = pick (clear (record_checks s r [])) (shown r.movers (held_in s r).lines) (not_shown (first (record_checks s r [])))
