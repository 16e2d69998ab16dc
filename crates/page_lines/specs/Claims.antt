-- What is claimed of ruled pages (02, T-01): lines fit, pages hold each firing once and in order, a page is all that is written.
-- Definitions only; proofs/Claims has the theorems.
use Rattle.std.specs.Prelude.{◌≡◌, Bool, true, false, ◌&&◌, List, [], ◌++◌, map, ℕ, zero, suc, ◌+◌, ◌-◌, ◌*◌, ◌<◌, ◌≤◌, ltb, leb, length, get_or, drop}
use Rattle.net.specs.Limits.{max_bases}
use Rattle.net.specs.Tests.{table}
use Rattle.net.specs.Checks.{clear, first}
use Rattle.net.specs.declared.Verdict.TheVariants.{Refused}
use Rattle.text.specs.Decimal.{decimal}
use Rattle.page_lines.specs.Page.{Row, row, columns, page_rows, page_bytes, row_line, blank_line, line_at, page_lines, page_text}
use Rattle.page_lines.specs.Answers.{pages_of, page_checks, page_answer, written_if}

-- what a firing record can hold: a serial in two bytes, a step in one, no more moved parts than a sheet has
abbrev pub holdable : Row → Bool
holdable r = ltb r.serial 65536 && (ltb r.step 256 && leb r.moved max_bases)

-- five, three and four digits are enough for its numbers
abbrev pub FitsColumns : Row → Type 0
FitsColumns r = (length (decimal r.serial) ≤ 5) × (length (decimal r.step) ≤ 3) × (length (decimal r.moved) ≤ 4)

-- Page k of the list rs fits: each number its columns, each line 40 columns and its newline, the page 2,091 bytes.
pub record PageFits (rs : List Row) (k : ℕ) : Type 0 where
  pub numbers : (i : ℕ) → i < length rs → FitsColumns (get_or rs i (row 0 0 0))
  pub lines : (i : ℕ) → length (line_at rs i) ≡ columns + 1
  pub bytes : length (page_text rs k) ≡ page_bytes

-- the lines of pages 1 to p, joined, each page without its last line
abbrev pub lines_to : List Row → ℕ → List (List ℕ)
lines_to rs zero = []
lines_to rs (suc p) = lines_to rs p ++ page_lines rs (suc p)

-- The pages of the list rs hold each of its firings once and in order: their lines are those of the list, then blank ones.
abbrev pub PagesHold : List Row → Type 0
PagesHold rs = lines_to rs (pages_of (length rs)) ≡ map row_line rs ++ table (page_rows * pages_of (length rs) - length rs) (λ _. blank_line)

-- A page that is printed is the buffer's first 2,091 bytes, and the rest of the buffer is as it was.
abbrev pub PrintedWhole : List Row → ℕ → List ℕ → Type 0
PrintedWhole rs k b =
    clear (page_checks (length b) (length rs) k) ≡ true
    → written_if (page_checks (length b) (length rs) k) (page_text rs k) b ≡ page_text rs k ++ drop page_bytes b

-- A page that is turned away, by the first of 23, 24 and 25 that holds, leaves every byte of the buffer.
pub record TurnedAway (rs : List Row) (k : ℕ) (b : List ℕ) : Type 0 where
  pub answer : clear (page_checks (length b) (length rs) k) ≡ false → page_answer (page_checks (length b) (length rs) k) ≡ Refused (first (page_checks (length b) (length rs) k))
  pub number : clear (page_checks (length b) (length rs) k) ≡ false → (23 ≤ first (page_checks (length b) (length rs) k)) × (first (page_checks (length b) (length rs) k) ≤ 25)
  pub buffer : clear (page_checks (length b) (length rs) k) ≡ false → written_if (page_checks (length b) (length rs) k) (page_text rs k) b ≡ b
