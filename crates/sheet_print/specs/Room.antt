-- Room: what a writer of a sheet's text asks of the buffer. A number has at most ten digits.
-- Definitions only.
use Rattle.std.specs.Prelude.{ℕ, ◌+◌, ◌*◌, ◌<◌, ◌≤◌, List, length}
use Rattle.net.specs.Limits.{max_sheet}
use Rattle.net.specs.Tests.{table}
use Rattle.net.specs.Journal.{transition}
use Rattle.text.specs.Joined.{joined}
use Rattle.format.specs.Parts.{transitions_of, transition_bytes}
use Rattle.format.specs.Arcs.{entry_count, in_count, out_count, arcs_width}
use Rattle.sheet_print.specs.Pieces.{step_at}

-- a line of two numbers, the longest words being `part`, `at` and `coupled`
abbrev pub line_room : ℕ
line_room = 30

-- `move P from X to Y`
abbrev pub move_room : ℕ
move_room = 46

-- what a step's bytes b say
abbrev pub arcs_room : List ℕ → ℕ
arcs_room b = move_room * entry_count b + (line_room * in_count b + line_room * out_count b)

-- a step: so much for each byte that it has by its counts
abbrev pub step_room : List ℕ → ℕ → ℕ
step_room s k = line_room * arcs_width (transition_bytes s (transition k))

-- each step has room behind the steps before it, in a buffer of n bytes whose steps begin at `at`
abbrev pub StepsFit : List ℕ → ℕ → ℕ → Type 0
StepsFit s at n = (k : ℕ) → k < transitions_of s → at + length (joined (table k (step_at s))) + step_room s k ≤ n

-- a whole sheet: so much for each byte, since a part has one byte and a line
abbrev pub text_room : ℕ
text_room = line_room * max_sheet
