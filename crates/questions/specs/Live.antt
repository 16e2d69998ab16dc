-- A record's live firings as a list (02, T-01: what a page is asked of): 1 to 10 are checked first.
-- Definitions only.
use Rattle.std.specs.Prelude.{List, [], ℕ}
use Rattle.net.specs.Tests.{pick}
use Rattle.net.specs.Checks.{clear, first}
use Rattle.live_list.specs.List.{listed, not_listed}
use Rattle.live_list.specs.declared.LiveFirings.{LiveFirings}
use Rattle.session.specs.Commands.{record_checks}
use Rattle.session.specs.declared.Record.{Record}

-- every field: the firings in their order and their number; no firing and zeros where the call is refused
unfoldable pub live_firings : List ℕ → Record → LiveFirings
live_firings s r = pick (clear (record_checks s r [])) (listed r.firings) (not_listed (first (record_checks s r [])))
