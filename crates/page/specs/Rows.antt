-- The rows of a list of firings (02, T-01), and the list read into arrays of plain numbers.
-- Definitions only.
use Rattle.std.specs.Prelude.{List, map, ℕ, ◌+◌, leb, length, set, replicate}
use Rattle.net.specs.Limits.{max_bases, max_live}
use Rattle.net.specs.Tests.{pick}
use Rattle.words.specs.Sets.{set_of, size_of}
use Rattle.firings.specs.declared.Firing.{Firing}
use Rattle.page_lines.specs.Page.{Row, row}
use Rattle.page_lines.specs.Answers.{Laid}
use Rattle.net.specs.declared.Verdict.{Verdict}
use Rattle.page.specs.declared.Rows.{Rows}

-- what a page says of a firing: its serial, its step, how many parts it moved
abbrev pub row_of : Firing → Row
row_of f = row f.key.0 f.transition (size_of (set_of max_bases f.moved))

-- Page k of the list fs was asked for into the buffer b: the answer a came, and b' is the buffer after.
abbrev pub Paged : List Firing → ℕ → List ℕ → Verdict → List ℕ → Type 0
Paged fs k b a b' = Laid (map row_of fs) (length fs) k b a b'

-- as many firings as the call by value takes; src/lib.rt has it for the code
abbrev pub lent_firings : ℕ
lent_firings = 257

-- ---- The list in arrays

unfoldable pub no_rows : Rows
no_rows = record { count = 0; keys = replicate max_live 0; steps = replicate max_live 0; moved = replicate max_live 0 }

-- one firing more, where there is room
unfoldable pub with_firing : Rows → Firing → Rows
with_firing r f =
    pick (leb max_live r.count) r
    (record {
      count = r.count + 1;
      keys = set r.keys r.count f.key.0;
      steps = set r.steps r.count f.transition;
      moved = set r.moved r.count (size_of (set_of max_bases f.moved));
    })
