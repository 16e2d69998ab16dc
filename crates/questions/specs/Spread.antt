-- How far one firing spreads, asked of a record (02, T-08): 1 to 10, then 19.
-- Definitions only. `spread_for` fixes every outcome whole.
use Rattle.std.specs.Prelude.{List, ℕ}
use Rattle.net.specs.Tests.{pick}
use Rattle.net.specs.Checks.{Check, clear, first}
use Rattle.net.specs.declared.Key.{Key}
use Rattle.spread.specs.Depends.{spread_of}
use Rattle.spread.specs.Spread.{told, not_told, own_checks}
use Rattle.spread.specs.declared.Spread.{Spread}
use Rattle.session.specs.Records.{held_in}
use Rattle.session.specs.Commands.{record_checks}
use Rattle.session.specs.declared.Record.{Record}

-- all checks of the call, in checking order
abbrev pub spread_checks : List ℕ → Record → Key → List Check
spread_checks s r k = record_checks s r (own_checks (held_in s r).lines k)

-- every field: the parts to which the firing of that key spreads; none where the call is refused
unfoldable pub spread_for : List ℕ → Record → Key → Spread
spread_for s r k = pick (clear (spread_checks s r k)) (told (spread_of k (held_in s r).lines)) (not_told (first (spread_checks s r k)))
