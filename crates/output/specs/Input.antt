-- How much of the input is looked at (01, the exam program): so the program knows when it has read enough.
-- Definitions only.
use Rattle.std.specs.Prelude.{◌≡◌, List, ◌++◌, ℕ, ◌+◌, ◌*◌}
use Rattle.net.specs.Tests.{pick}
use Rattle.net.specs.Checks.{clear}
use Rattle.format.specs.Bytes.{word_at}
use Rattle.sheet.specs.Checks.{sheet_checks}
use Rattle.report.specs.Said.{max_commands}
use Rattle.output.specs.Output.{sheet_in, output}

-- how many bytes: the two of the length, the sheet, and behind an accepted one the commands
unfoldable pub looked_at : List ℕ → ℕ
looked_at input = 2 + word_at input 0 + pick (clear (sheet_checks (sheet_in input))) (3 * max_commands) 0

-- the most that it can be: a length of two bytes is at most 65,535
abbrev pub max_input : ℕ
max_input = 262142

-- Whatever follows p, the output is the same. (proofs/Input: so it is wherever p has all that is looked at.)
abbrev pub Settled : List ℕ → Type 0
Settled p = (rest : List ℕ) → output (p ++ rest) ≡ output p
