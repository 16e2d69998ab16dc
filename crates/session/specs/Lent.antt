-- What a record holds, and the record that holds it.
-- Definitions only.
use Rattle.runs.specs.declared.Held.{Held}
use Rattle.session.specs.declared.Record.{Record}

abbrev pub record_with : Held → Record
record_with h = record { marking = h.marking; firings = h.firings; movers = h.movers; given = h.given }

abbrev pub held_by : Record → Held
held_by r = record { marking = r.marking; firings = r.firings; movers = r.movers; given = r.given }
