-- Answers that are given as words and values, and their lines (01, the exam program).
-- Definitions only.
use Rattle.std.specs.Prelude.{List, ℕ, ◌+◌, ◌<◌, get_or}
use Rattle.net.specs.Tests.{table}
use Rattle.text.specs.Joined.{joined}
use Rattle.report.specs.Lines.{answer_line, LowValue}

-- how many commands are read (01, the exam program), and so the most lines of answers
abbrev pub max_commands : ℕ
max_commands = 65535

-- the line of the answer at i, numbered from 1
abbrev pub line_at : List ℕ → List ℕ → ℕ → List ℕ
line_at words values i = answer_line (i + 1) (get_or words i 0) (get_or values i 0)

-- the lines of the first n answers
abbrev pub lines_upto : List ℕ → List ℕ → ℕ → List ℕ
lines_upto words values n = joined (table n (line_at words values))

-- the refusals among the first n have numbers that a line has room for
abbrev pub LowValues : List ℕ → List ℕ → ℕ → Type 0
LowValues words values n = (i : ℕ) → i < n → LowValue (get_or words i 0) (get_or values i 0)
