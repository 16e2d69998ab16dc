-- What the lines of a text come to: the number of places and of steps, the acts, and how many bytes the sheet has.
-- Definitions only.
use Rattle.std.specs.Prelude.{◌≡◌, true, ℕ, ◌+◌, ◌*◌, ◌≤◌, leb, length, take}
use mathlib.Core.List.{List, [], ◌∷◌, ◌++◌, map, foldl}
use Rattle.lexing.specs.Tokens.{lines_of, row}
use Rattle.sheet_text.specs.Lines.{line_of}
use Rattle.sheet_text.specs.Reading.{max_items}
use Rattle.sheet_text.specs.declared.Line.{Line}
use Rattle.sheet_text.specs.declared.Line.TheVariants.{Blank, Places, Part, Coupled, Step, Move, Before, After, Wrong}
use Rattle.sheet_draft.specs.declared.Note.{Note}
use Rattle.sheet_draft.specs.declared.Noted.{Noted}
use Rattle.sheet_draft.specs.Acts.{act_of, part_tag, coupled_tag}

-- ---- one line

-- a line that is no act
abbrev pub no_act : ℕ → ℕ → ℕ → Note
no_act size places steps = record { act = 0; acts = 0; size = size; places = places; steps = steps }

-- a line that is an act
abbrev pub an_act : ℕ → ℕ → ℕ → ℕ → ℕ → ℕ → ℕ → Note
an_act tag p q r size places steps = record { act = act_of tag p q r; acts = 1; size = size; places = places; steps = steps }

-- A line behind so many places and steps: its act, how many bytes it adds to the sheet (01, the sheet: a start place one,
-- a coupling two, an entry three, a step its pair and its three counts), and the places and steps behind it. Behind so many
-- steps the last is step number one less, so that its tags are three times so many and the next two.
abbrev pub note_of : Line → ℕ → ℕ → Note
note_of Blank places steps = no_act 0 places steps
note_of (Places n) places steps = no_act 0 n steps
note_of (Part p x) places steps = an_act part_tag x 0 0 1 places steps
note_of (Coupled p q) places steps = an_act coupled_tag p q 0 2 places steps
note_of (Step k) places steps = no_act 7 places (steps + 1)
note_of (Move p i o) places steps = an_act (3 * steps) p i o 3 places steps
note_of (Before p q) places steps = an_act (3 * steps + 1) p q 0 2 places steps
note_of (After p q) places steps = an_act (3 * steps + 2) p q 0 2 places steps
note_of Wrong places steps = no_act 0 places steps

-- ---- all lines

pub record Notes : Type 0 where
  pub places : ℕ
  pub steps : ℕ
  pub size : ℕ
  pub acts : List ℕ

abbrev pub notes : ℕ → ℕ → ℕ → List ℕ → Notes
notes places steps size acts = record { places = places; steps = steps; size = size; acts = acts }

-- behind one line more
abbrev pub after : Notes → Note → Notes
after x n = notes n.places n.steps (x.size + n.size) (x.acts ++ take n.acts (n.act ∷ []))

abbrev pub noted : Notes → Line → Notes
noted x l = after x (note_of l x.places x.steps)

-- before the first line: a header and two pairs
abbrev pub blank_notes : Notes
blank_notes = notes 0 0 12 []

abbrev pub lines_in : List ℕ → List Line
lines_in s = map line_of (map (row max_items) (lines_of s))

unfoldable pub notes_of : List ℕ → Notes
notes_of s = foldl noted blank_notes (lines_in s)

-- 01, the sheet: offsets are of two bytes
abbrev pub most_bytes : ℕ
most_bytes = 65535

-- What the code answers of a text whose sheet is of at most so many bytes, with the acts that it wrote: the text's notes,
-- with a number of places that a byte holds and no more acts than bytes.
pub record Collected (s acts : List ℕ) (r : Noted) : Type 0 where
  pub fits : leb (notes_of s).size most_bytes ≡ true
  pub all : notes r.places r.steps r.size (take r.acts acts) ≡ notes_of s
  pub few : r.acts ≤ most_bytes
  pub room : r.acts ≤ length acts
  pub places : r.places ≤ 255
