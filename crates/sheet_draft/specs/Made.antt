-- What is made of a text: the bytes of the sheet, or the line of the first mistake, or that the format cannot hold the net.
-- Definitions only.
use Rattle.std.specs.Prelude.{Bool, ◌&&◌, ℕ, List, [], leb, length}
use Rattle.net.specs.Tests.{pick, all}
use Rattle.net.specs.Net.{Arcs, Net}
use Rattle.encode.specs.Encoding.{bytes_of}
use Rattle.sheet_text.specs.Reading.{Reading, understood, mistake}
use Rattle.sheet_draft.specs.Notes.{most_bytes}
use Rattle.sheet_draft.specs.declared.Made.{Made}
use Rattle.sheet_draft.specs.declared.Made.TheVariants.{Sheet, Mistake, TooLarge}

-- 01, the sheet: the entries, in-couplings and out-couplings of a step stand each after their count, of one byte
abbrev pub holdable_step : Arcs → Bool
holdable_step t = leb (length t.entries) 255 && (leb (length t.in_bonds) 255 && leb (length t.out_bonds) 255)

-- 01, the sheet: the numbers of parts and of steps are of one byte, and offsets are of two
abbrev pub holdable : Net → Bool
holdable net = leb (length (bytes_of net)) most_bytes && (leb net.bases 255 && (leb (length net.transitions) 255 && all holdable_step net.transitions))

abbrev pub made_of : Reading → Made
made_of (understood net) = pick (holdable net) (Sheet (length (bytes_of net))) TooLarge
made_of (mistake k l) = Mistake k l

-- the bytes of the sheet; none where it is not understood or cannot be held
abbrev pub sheet_made : Reading → List ℕ
sheet_made (understood net) = pick (holdable net) (bytes_of net) []
sheet_made (mistake k l) = []
