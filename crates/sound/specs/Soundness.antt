-- Soundness of what a record holds (01, the record; 02, T-03, T-06): marking m, live firings f, highest key given k, last movers t.
-- Definitions only. n is the number of bases.
use Rattle.std.specs.Prelude.{◌≡◌, Bool, true, not, ◌&&◌, List, ◌∷◌, ◌++◌, ℕ, eqb, leb}
use Rattle.net.specs.Limits.{max_bases, max_live}
use Rattle.net.specs.Tests.{same_list}
use Rattle.net.specs.Checks.{Check, check, clear}
use Rattle.net.specs.Journal.{Journal}
use Rattle.net.specs.History.{lines_in_form, replays, sound}
use Rattle.net.specs.declared.Key.{Key}
use Rattle.format.specs.Parts.{bases_of}
use Rattle.format.specs.NetOf.{net_of}
use Rattle.sheet.specs.Checks.{sheet_checks}
use Rattle.marking.specs.Form.{marking_of, laid, in_form}
use Rattle.marking.specs.declared.Marking.{Marking}
use Rattle.firings.specs.Lines.{lines_in, firings_of}
use Rattle.firings.specs.Form.{firings_in_form}
use Rattle.firings.specs.declared.Firings.{Firings}
use Rattle.movers.specs.Lamp.{last_movers}

-- the journal that they hold, with the highest key given
abbrev pub journal_in : ℕ → Marking → Firings → Key → Journal
journal_in n m f k = record { marking = marking_of n m; lines = lines_in n f; given = k }

-- The form: bonds and live firings fit their arrays, and unused entries hold 0.
abbrev pub formed : ℕ → Marking → Firings → Bool
formed n m f = in_form n m && (leb f.live max_live && firings_in_form n f)

-- Nothing is in the arrays but what they hold, laid out with 0 in every unused entry.
abbrev pub LaidOut : ℕ → Marking → Firings → Type 0
LaidOut n m f = (m ≡ laid (marking_of n m)) × (f ≡ firings_of (lines_in n f))

-- Sound for the sheet s: formed, and a sound history of its net, the highest key given among it.
unfoldable pub sound_in : List ℕ → Marking → Firings → Key → Bool
sound_in s m f k = formed (bases_of s) m f && sound (net_of s) (journal_in (bases_of s) m f k)

-- The same of all but the key: formed, keys in order, and the firings run forward to the marking.
unfoldable pub runs_in : List ℕ → Marking → Firings → Bool
runs_in s m f = formed (bases_of s) m f && (lines_in_form (lines_in (bases_of s) f) && replays (net_of s) (net_of s).start (lines_in (bases_of s) f) (marking_of (bases_of s) m))

-- The table is that of the lines: for each base that a record has room for, the key of the last that moved it (02, T-06).
abbrev pub movers_fit : ℕ → Firings → List ℕ → Bool
movers_fit n f t = same_list eqb t (last_movers max_bases (lines_in n f))

-- Sound for the sheet s, the table too.
abbrev pub kept_in : List ℕ → Marking → Firings → Key → List ℕ → Bool
kept_in s m f k t = sound_in s m f k && movers_fit (bases_of s) f t

-- What every call on a record checks before its own: 1 to 9, then 10.
abbrev pub checks_in : List ℕ → Marking → Firings → Key → List ℕ → List Check → List Check
checks_in s m f k t own = sheet_checks s ++ (check 10 (not (kept_in s m f k t)) ∷ own)

-- None of them holds, the table left aside.
pub record Passed (s : List ℕ) (m : Marking) (f : Firings) (k : Key) : Type 0 where
  pub accepted : clear (sheet_checks s) ≡ true
  pub sound : sound_in s m f k ≡ true
  pub laid_out : LaidOut (bases_of s) m f

-- None of them holds.
pub record Kept (s : List ℕ) (m : Marking) (f : Firings) (k : Key) (t : List ℕ) : Type 0 where
  pub passed : Passed s m f k
  pub movers : t ≡ last_movers max_bases (lines_in (bases_of s) f)
