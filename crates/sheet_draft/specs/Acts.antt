-- Acts: the lines of a text that name a part's place, a coupling or an entry, each as one number, and the net that acts say.
-- Definitions only.
use Rattle.std.specs.Prelude.{ℕ, ◌+◌, ◌*◌, ◌/◌, ◌%◌, List, map, eqb, length}
use Rattle.net.specs.Tests.{keep, table}
use Rattle.net.specs.Net.{Arcs, Net, bond}
use Rattle.net.specs.declared.Bond.{Bond}
use Rattle.net.specs.declared.Entry.{Entry}
use Rattle.sheet_text.specs.Reading.{draft, arcs}

-- an act: its tag above three bytes
abbrev pub act_of : ℕ → ℕ → ℕ → ℕ → ℕ
act_of tag p q r = tag * 16777216 + p * 65536 + q * 256 + r

abbrev pub tag_of : ℕ → ℕ
tag_of w = w / 16777216

abbrev pub first_of : ℕ → ℕ
first_of w = w / 65536 % 256

abbrev pub second_of : ℕ → ℕ
second_of w = w / 256 % 256

abbrev pub third_of : ℕ → ℕ
third_of w = w % 256

-- the acts of one tag, in their order
abbrev pub of_tag : ℕ → List ℕ → List ℕ
of_tag t acts = keep (λ (w : ℕ). eqb (tag_of w) t) acts

-- ---- what an act says

abbrev pub bond_of : ℕ → Bond
bond_of w = bond (first_of w) (second_of w)

abbrev pub entry_of : ℕ → Entry
entry_of w = record { base = first_of w; from = second_of w; to = third_of w }

-- ---- tags (01, the sheet: start places, start couplings, the entries, in-couplings and out-couplings of each step)

abbrev pub part_tag : ℕ
part_tag = 0

abbrev pub coupled_tag : ℕ
coupled_tag = 1

abbrev pub move_tag : ℕ → ℕ
move_tag k = 3 * k + 3

abbrev pub before_tag : ℕ → ℕ
before_tag k = 3 * k + 4

abbrev pub after_tag : ℕ → ℕ
after_tag k = 3 * k + 5

-- ---- the net

abbrev pub places_in : List ℕ → List ℕ
places_in acts = map first_of (of_tag part_tag acts)

abbrev pub bonds_at : ℕ → List ℕ → List Bond
bonds_at t acts = map bond_of (of_tag t acts)

abbrev pub entries_at : ℕ → List ℕ → List Entry
entries_at t acts = map entry_of (of_tag t acts)

abbrev pub step_in : List ℕ → ℕ → Arcs
step_in acts k = arcs (entries_at (move_tag k) acts) (bonds_at (before_tag k) acts) (bonds_at (after_tag k) acts)

abbrev pub net_in : ℕ → ℕ → List ℕ → Net
net_in places steps acts = draft places (length (places_in acts)) (places_in acts) (bonds_at coupled_tag acts) (table steps (step_in acts))
