-- The whole output of the exam program, of the bytes of its input (01, the exam program), over the journal.
-- Definitions only.
use Rattle.std.specs.Prelude.{List, [], ◌∷◌, ◌++◌, ℕ, suc, ◌+◌, ◌*◌, take, drop}
use Rattle.net.specs.Tests.{pick}
use Rattle.net.specs.Checks.{clear, first}
use Rattle.net.specs.Net.{Net}
use Rattle.net.specs.Journal as J
use Rattle.net.specs.Journal.{begin, play, answers}
use Rattle.format.specs.Bytes.{word_at}
use Rattle.format.specs.NetOf.{net_of}
use Rattle.sheet.specs.Checks.{sheet_checks}
use Rattle.tally.specs.Counts.{zero_tally}
use Rattle.text.specs.Decimal.{decimal}
use Rattle.text.specs.Ascii.{ascii}
use Rattle.commands.specs.Answers.{answer_of, key_of}
use Rattle.command_list.specs.Commands.{commands_in}
use Rattle.runs.specs.Running.{tallied}
use Rattle.report.specs.Lines.{min_line, told_line}
use Rattle.report.specs.Said.{max_commands}
use Rattle.final_lines.specs.Final.{closing_of, closing_room}

-- ---- The input: the sheet's length in two bytes, the sheet, the commands

-- Missing bytes shorten the sheet; fewer than two bytes of input mean an empty one.
abbrev pub sheet_in : List ℕ → List ℕ
sheet_in input = take (word_at input 0) (drop 2 input)

-- the commands' bytes: what comes after the sheet, and of that as many bytes as that many commands have
abbrev pub command_bytes : List ℕ → List ℕ
command_bytes input = take (3 * max_commands) (drop (2 + word_at input 0) input)

-- ---- A refused sheet

-- `sheet refused ` and the number
abbrev pub sheet_refused : List ℕ
sheet_refused = ascii "sheet refused "

unfoldable pub refused_sheet : ℕ → List ℕ
refused_sheet n = sheet_refused ++ decimal n ++ ascii "\n"

-- ---- A session: a line for each command, then the closing lines

-- the answers' lines; the first has the number k + 1
abbrev pub answer_lines : ℕ → List J.Answer → List ℕ
answer_lines k [] = []
answer_lines k (a ∷ rest) = told_line (suc k) (answer_of a) (key_of a) ++ answer_lines (suc k) rest

unfoldable pub session_text : Net → List (List ℕ) → List ℕ
session_text net cs = answer_lines 0 (answers net cs (begin net)) ++ closing_of (play net cs (begin net)) (tallied (answers net cs (begin net)) zero_tally)

-- ---- The whole

-- an accepted sheet's session, or the sheet's refusal
unfoldable pub output : List ℕ → List ℕ
output input =
    let s : List ℕ = sheet_in input in
    pick (clear (sheet_checks s)) (session_text (net_of s) (commands_in (command_bytes input))) (refused_sheet (first (sheet_checks s)))

-- the room for the longest output
abbrev pub max_output : ℕ
max_output = min_line * max_commands + closing_room
