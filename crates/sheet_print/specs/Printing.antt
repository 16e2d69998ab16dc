-- What printing a sheet answers and writes (01, the sheet; the turned-away list), for any bytes.
-- Definitions only. The text itself is sheet_text's.
use Rattle.std.specs.Prelude.{ℕ, List, [], length}
use Rattle.sheet.specs.Checks.{checked}
use Rattle.net.specs.declared.Verdict.{Verdict}
use Rattle.net.specs.declared.Verdict.TheVariants.{Accepted, Refused}
use Rattle.sheet_text.specs.Claims.{sheet_text}
use Rattle.sheet_print.specs.declared.Printed.{Printed}
use Rattle.sheet_print.specs.declared.Printed.TheVariants as printed

-- by the answer to the sheet: how long its text t is, or the number of document 01's list
abbrev pub printed_by : Verdict → List ℕ → Printed
printed_by Accepted t = printed.Text (length t)
printed_by (Refused n) t = printed.Refused n

-- by the answer to the sheet: its text t, or none
abbrev pub text_by : Verdict → List ℕ → List ℕ
text_by Accepted t = t
text_by (Refused n) t = []

-- what the call answers
unfoldable pub printed_of : List ℕ → Printed
printed_of s = printed_by (checked s) (sheet_text s)

-- the bytes that it writes, from the first of the buffer on
unfoldable pub text_printed : List ℕ → List ℕ
text_printed s = text_by (checked s) (sheet_text s)

-- where the text ends that an answer speaks of
abbrev pub end_of : Printed → ℕ
end_of (printed.Text n) = n
end_of (printed.Refused n) = 0
