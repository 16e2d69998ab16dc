-- The conditions under which a sheet is turned away for a transition's length or entries (01, the turned-away list, 7 and 8).
-- Definitions only. Each is a test of that transition's bytes b that passes where the sheet is refused.
use Rattle.std.specs.Prelude.{ℕ, Bool, not, ◌||◌, List, eqb, length}
use Rattle.net.specs.Limits.{max_entries}
use Rattle.net.specs.Rules.{entries_rule}
use Rattle.format.specs.Bytes.{outside}
use Rattle.format.specs.Arcs.{entry_count, arcs_width, arcs_in}

-- 7: there are more or fewer bytes than the counts in them give, or no entry, or more entries than may be.
unfoldable pub wrong_width : List ℕ → Bool
wrong_width b = not (eqb (length b) (arcs_width b)) || outside (entry_count b) max_entries

-- 8: an entry's base or place is not there (of so many places and bases), or the entries' bases do not ascend strictly.
unfoldable pub wrong_entries : ℕ → ℕ → List ℕ → Bool
wrong_entries places bases b = not (entries_rule places bases (arcs_in b).entries)
