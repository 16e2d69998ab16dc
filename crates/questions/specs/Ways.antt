-- The way back to a wanted layout, asked of a record (02, T-04): 1 to 10, then 27 and 28.
-- Definitions only. `way_back_of` fixes every outcome whole.
use Rattle.std.specs.Prelude.{List, ℕ}
use Rattle.net.specs.Tests.{pick}
use Rattle.net.specs.Checks.{Check, clear, first}
use Rattle.format.specs.NetOf.{net_of}
use Rattle.way_back.specs.Ways.{way_back}
use Rattle.way_back.specs.Answer.{way_of, no_way_back, way_checks}
use Rattle.way_back.specs.declared.WayBack.{WayBack}
use Rattle.session.specs.Records.{held_in}
use Rattle.session.specs.Commands.{record_checks}
use Rattle.session.specs.declared.Record.{Record}

-- all checks of the call, in checking order
abbrev pub way_back_checks : List ℕ → Record → List ℕ → List Check
way_back_checks s r w = record_checks s r (way_checks (net_of s) w (held_in s r))

-- every field: the keys of the way back and their number; no key and zeros where the call is refused
unfoldable pub way_back_of : List ℕ → Record → List ℕ → WayBack
way_back_of s r w = pick (clear (way_back_checks s r w)) (way_of (way_back (net_of s) w (held_in s r))) (no_way_back (first (way_back_checks s r w)))
