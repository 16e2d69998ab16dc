-- Ruled pages of live firings (02, T-01): what is claimed of the pages of every list, over the definition of the page call.
-- Definitions only.
use Rattle.std.specs.Prelude.{◌≡◌, Bool, true, false, ◌&&◌, List, [], map, ℕ, ◌≤◌, ltb, length, get_or, take}
use Rattle.net.specs.Tests.{all}
use Rattle.net.specs.Checks.{clear, first}
use Rattle.net.specs.Journal.{LiveLine}
use Rattle.net.specs.declared.Verdict.TheVariants.{Accepted}
use Rattle.format.specs.Parts.{bases_of}
use Rattle.firings.specs.Lines.{as_line}
use Rattle.firings.specs.declared.Firing.{Firing}
use Rattle.live_list.specs.List.{no_firing, not_listed}
use Rattle.page_lines.specs.Claims.{PageFits, PagesHold, PrintedWhole, TurnedAway}
use Rattle.page.specs.Rows.{row_of}
use Rattle.session.specs.Records.{held_in}
use Rattle.session.specs.Commands.{record_checks}
use Rattle.questions.specs.Live.{live_firings}
use Rattle.session.specs.declared.Record.{Record}

-- what a firing record's fields can hold: the step in one byte, the serial in two
abbrev pub in_bytes : Firing → Bool
in_bytes f = ltb f.key.0 65536 && ltb f.transition 256

-- Every page of every list fits its columns and lines; a printed page is the buffer's first 2,091 bytes, and the rest stays; one that
-- is turned away, by 23, 24 or 25, leaves every byte; and the pages hold each firing of the list once and in order.
pub record Pages (fs : List Firing) : Type 0 where
  pub fits : all in_bytes fs ≡ true → (k : ℕ) → PageFits (map row_of fs) k
  pub whole : all in_bytes fs ≡ true → (k : ℕ) (b : List ℕ) → PrintedWhole (map row_of fs) k b
  pub away : (k : ℕ) (b : List ℕ) → TurnedAway (map row_of fs) k b
  pub holds : PagesHold (map row_of fs)

-- what the call for a record's live firings gives, as lines
abbrev pub listed_lines : List ℕ → Record → List LiveLine
listed_lines s r = map (as_line (bases_of s)) (take (live_firings s r).count (live_firings s r).firings)

-- The list that pages are asked of, from any record: where none of 1 to 10 holds it is the record's lines in their order, with zeros
-- after them; else it is empty.
pub record LiveListed (s : List ℕ) (r : Record) : Type 0 where
  pub given : clear (record_checks s r []) ≡ true → (live_firings s r).answer ≡ Accepted
  pub count : clear (record_checks s r []) ≡ true → (live_firings s r).count ≡ length (held_in s r).lines
  pub lines : clear (record_checks s r []) ≡ true → listed_lines s r ≡ (held_in s r).lines
  pub unused : clear (record_checks s r []) ≡ true → (i : ℕ) → length (held_in s r).lines ≤ i → get_or (live_firings s r).firings i no_firing ≡ no_firing
  pub away : clear (record_checks s r []) ≡ false → live_firings s r ≡ not_listed (first (record_checks s r []))
