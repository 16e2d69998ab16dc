-- A session from a fresh record (01, the session book): what the journal holds after a list of commands, the session, and the
-- forward run of lines. Definitions only.
use Rattle.std.specs.Prelude.{◌≡◌, List, map, ℕ, length}
use Rattle.net.specs.Net.{Marking}
use Rattle.net.specs.Journal.{LiveLine, Journal, key, begin, play}
use Rattle.net.specs.Claims.{fire_commands, numbered, all_fired}
use Rattle.format.specs.NetOf.{net_of}
use Rattle.tally.specs.declared.Tally.{Tally}
use Rattle.session.specs.Commands.{fresh_of}
use Rattle.session.specs.Records.{record_of}
use Rattle.session.specs.Runs.{Session, answered, run_of}

-- what the journal holds after the commands
abbrev pub journal_after : List ℕ → List (List ℕ) → Journal
journal_after s cs = play (net_of s) cs (begin (net_of s))

-- the session after the commands
abbrev pub session_after : List ℕ → List (List ℕ) → Tally → Session
session_after s cs t = run_of s cs (fresh_of s) t

-- The lines' transitions, given as commands of kind 1 and nothing else from another fresh record, with any tally: each is
-- answered `fired`, each moves the bases on its line, and the record ends in exactly the marking z. The run's keys are its own, from
-- 1 up, and its highest given is the number of lines (02, T-03).
pub record ForwardRun (s : List ℕ) (ls : List LiveLine) (z : Marking) (t : Tally) : Type 0 where
  pub fired : (session_after s (fire_commands ls) t).answers ≡ map answered (all_fired 0 ls)
  pub session : (session_after s (fire_commands ls) t).session ≡ record_of (record { marking = z; lines = numbered 0 ls; given = key (length ls) })
  -- and so does the run's own journal
  pub journal : journal_after s (fire_commands ls) ≡ record { marking = z; lines = numbered 0 ls; given = key (length ls) }
