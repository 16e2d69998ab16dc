-- A ruled page of live firings (02, T-01): 50 lines of 40 columns and a last line, each ended by a newline.
-- Definitions only. Firings and the lines of a page are counted from 0 here, pages from 1 as in the paper.
use Rattle.std.specs.Prelude.{ℕ, ◌+◌, ◌-◌, ◌*◌, List, [], ◌++◌, ltb, length, get_or}
use Rattle.net.specs.Tests.{pick, table}
use Rattle.text.specs.Ascii.{ascii}
use Rattle.text.specs.Decimal.{decimal}
use Rattle.text.specs.Joined.{joined}

-- what a page says of a firing: its serial, its step, and how many parts it moved
pub record Row : Type 0 where
  pub serial : ℕ
  pub step : ℕ
  pub moved : ℕ

abbrev pub row : ℕ → ℕ → ℕ → Row
row k t m = record { serial = k; step = t; moved = m }

-- the columns of a line, the lines before the last, the bytes of a page
abbrev pub columns : ℕ
columns = 40

abbrev pub page_rows : ℕ
page_rows = 50

abbrev pub page_bytes : ℕ
page_bytes = 2091

-- ---- A line

-- k spaces
abbrev pub blanks : ℕ → List ℕ
blanks k = table k (λ _. 32)

-- a number at the right end of w columns
abbrev pub right_in : ℕ → ℕ → List ℕ
right_in w n = blanks (w - length (decimal n)) ++ decimal n

-- a text, then spaces up to the last column, then the newline
unfoldable pub line : List ℕ → List ℕ
line t = t ++ (blanks (columns - length t) ++ ascii "\n")

-- columns 1 to 5 for the serial, 7 to 9 for the step, 11 to 14 for the number of moved parts
abbrev pub row_text : Row → List ℕ
row_text r = right_in 5 r.serial ++ ascii " " ++ right_in 3 r.step ++ ascii " " ++ right_in 4 r.moved

abbrev pub row_line : Row → List ℕ
row_line r = line (row_text r)

abbrev pub blank_line : List ℕ
blank_line = line []

-- the last line has the page's number
abbrev pub last_line : ℕ → List ℕ
last_line k = line (ascii "page " ++ decimal k)

-- ---- A page

-- the line of the firing at i; blank where the list has none
abbrev pub line_at : List Row → ℕ → List ℕ
line_at rs i = pick (ltb i (length rs)) (row_line (get_or rs i (row 0 0 0))) blank_line

-- where page k begins in the list
abbrev pub page_from : ℕ → ℕ
page_from k = page_rows * (k - 1)

-- the 50 lines of page k, in list order
abbrev pub page_lines : List Row → ℕ → List (List ℕ)
page_lines rs k = table page_rows (λ i. line_at rs (page_from k + i))

abbrev pub page_text : List Row → ℕ → List ℕ
page_text rs k = joined (page_lines rs k) ++ last_line k

-- rows that lie in lent arrays: the first n numbers of each
abbrev pub rows_in : List ℕ → List ℕ → List ℕ → ℕ → List Row
rows_in keys steps moved n = table n (λ i. row (get_or keys i 0) (get_or steps i 0) (get_or moved i 0))
