-- The closing lines of what a journal holds, in their order (01, the exam program), and the room that their writers ask for.
-- Definitions only.
use Rattle.std.specs.Prelude.{List, ◌++◌, ℕ, ◌+◌, ◌*◌}
use Rattle.net.specs.Limits.{max_bases, max_bonds, max_live}
use Rattle.net.specs.Journal.{Journal, line_keys}
use Rattle.tally.specs.declared.Tally.{Tally}
use Rattle.closing.specs.Closing.{item_room, bond_room, places_line, bond_lines, live_line, tally_line}

-- places, bonds, live firings, tally
unfoldable pub closing_of : Journal → Tally → List ℕ
closing_of j t = places_line j.marking.places ++ bond_lines j.marking.bonds ++ live_line (line_keys j.lines) ++ tally_line t.fired t.undone t.refused

-- the room for them
abbrev pub places_room : ℕ
places_room = 7 + item_room * max_bases

abbrev pub live_room : ℕ
live_room = 5 + item_room * max_live

abbrev pub closing_room : ℕ
closing_room = places_room + bond_room * max_bonds + live_room + 6 + item_room * 3
