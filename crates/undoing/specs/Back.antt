-- The live firing at i taken back, on what a record holds: a marking m and live firings f (01, taking back; the session book).
-- Definitions only. s is the sheet. The highest key given plays no part: it stays.
use Rattle.std.specs.Prelude.{◌≡◌, List, ℕ, get_or}
use Rattle.net.specs.Net.{arcs_of}
use Rattle.net.specs.Firing.{undo}
use Rattle.net.specs.Journal.{LiveLine, no_line, without}
use Rattle.format.specs.Parts.{bases_of}
use Rattle.format.specs.NetOf.{net_of}
use Rattle.marking.specs.Form.{marking_of, laid}
use Rattle.marking.specs.declared.Marking.{Marking}
use Rattle.firings.specs.Lines.{lines_in, firings_of}
use Rattle.firings.specs.declared.Firings.{Firings}

-- the line at i
abbrev pub line_at : List ℕ → Firings → ℕ → LiveLine
line_at s f i = get_or (lines_in (bases_of s) f) i no_line

-- What is held afterwards, m' and f': its transition is undone on the bases that it moved, its line goes and the others stay in
-- order. Both are laid out with 0 in every unused entry.
pub record UndoneAt (s : List ℕ) (m : Marking) (f : Firings) (i : ℕ) (m' : Marking) (f' : Firings) : Type 0 where
  pub marking : m' ≡ laid (undo (bases_of s) (arcs_of (net_of s) (line_at s f i).transition) (line_at s f i).moved (marking_of (bases_of s) m))
  pub firings : f' ≡ firings_of (without (line_at s f i).key (lines_in (bases_of s) f))
