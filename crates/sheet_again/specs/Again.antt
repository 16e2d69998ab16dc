-- What comes of printing a sheet and reading the text (01, the sheet; the turned-away list), for any bytes.
-- Definitions only.
use Rattle.std.specs.Prelude.{ℕ, List, [], length}
use Rattle.sheet.specs.Checks.{checked}
use Rattle.net.specs.declared.Verdict.{Verdict}
use Rattle.net.specs.declared.Verdict.TheVariants.{Accepted, Refused}
use Rattle.sheet_draft.specs.declared.Made.TheVariants.{Sheet}
use Rattle.sheet_again.specs.declared.Again.{Again}
use Rattle.sheet_again.specs.declared.Again.TheVariants as again

-- by the answer to the sheet s: a sheet of as many bytes is read from its text, or the number of document 01's list
abbrev pub again_by : Verdict → List ℕ → Again
again_by Accepted s = again.Read (Sheet (length s))
again_by (Refused n) s = again.Refused n

-- by the answer to the sheet s: its own bytes, or none
abbrev pub bytes_by : Verdict → List ℕ → List ℕ
bytes_by Accepted s = s
bytes_by (Refused n) s = []

-- what the call answers
abbrev pub again_of : List ℕ → Again
again_of s = again_by (checked s) s

-- the bytes that it writes, from the first of the buffer on
abbrev pub bytes_again : List ℕ → List ℕ
bytes_again s = bytes_by (checked s) s
