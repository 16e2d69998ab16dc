-- The limits of document 01, once more as numbers that definitions can cite; src/lib.rt has them for the code.
-- Definitions only.
use Rattle.std.specs.Prelude.{ℕ}

-- 01, the sheet: its bytes; its places, parts, steps; a step's entries
abbrev pub max_sheet : ℕ
max_sheet = 32768

abbrev pub max_places : ℕ
max_places = 64

abbrev pub max_bases : ℕ
max_bases = 64

abbrev pub max_transitions : ℕ
max_transitions = 64

abbrev pub max_entries : ℕ
max_entries = 64

-- every pair of bases: as many bonds as a marking can have
abbrev pub max_bonds : ℕ
max_bonds = 2016

-- 01, the record: live firings, the highest serial
abbrev pub max_live : ℕ
max_live = 256

abbrev pub max_key : ℕ
max_key = 65535
