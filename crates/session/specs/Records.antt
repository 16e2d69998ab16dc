-- The session record and the journal (01, commands, record, tally), each as the other has it; and soundness, refusal 10.
-- Definitions only.
use Rattle.std.specs.Prelude.{Bool, List, ℕ}
use Rattle.net.specs.Journal.{Journal}
use Rattle.format.specs.Parts.{bases_of}
use Rattle.sound.specs.Soundness.{journal_in, kept_in, Kept}
use Rattle.runs.specs.Running.{held_of}
use Rattle.session.specs.declared.Record.{Record}
use Rattle.session.specs.Lent.{record_with}

-- the journal that a record holds, on a sheet
abbrev pub held_in : List ℕ → Record → Journal
held_in s r = journal_in (bases_of s) r.marking r.firings r.given

-- a journal in the record's form
unfoldable pub record_of : Journal → Record
record_of j = record_with (held_of j)

-- Sound for a sheet: it has the form, and its firings, run forward alone from the start, are each accepted with those
-- moved bases and end in its places and bonds; the highest key given is no lower than any of theirs (02, T-03), and the table of
-- last movers is theirs (02, T-06).
abbrev pub sound_for : List ℕ → Record → Bool
sound_for s r = kept_in s r.marking r.firings r.given r.movers

-- What an inner command asks: an accepted sheet, a sound record, and nothing in its arrays but what it holds.
abbrev pub Sound : List ℕ → Record → Type 0
Sound s r = Kept s r.marking r.firings r.given r.movers
