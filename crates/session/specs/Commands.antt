-- Starting a session, and one command on a record: the checks in order, the answer, the key, the record, the tally.
-- Definitions only (01, commands, record, tally; the turned-away list). `command_of` fixes every outcome whole.
use Rattle.std.specs.Prelude.{◌≡◌, List, [], ℕ, eqb}
use Rattle.net.specs.Tests.{pick}
use Rattle.net.specs.Checks.{Check, clear, first}
use Rattle.net.specs.Journal as J
use Rattle.net.specs.Journal.{key, kind_of, transition_named, key_named, fire_reply, undo_reply, begin, checks}
use Rattle.format.specs.NetOf.{net_of}
use Rattle.sheet.specs.Checks.{sheet_checks}
use Rattle.sound.specs.Soundness.{checks_in}
use Rattle.tally.specs.Counts.{counted_of}
use Rattle.tally.specs.declared.Tally.{Tally}
use Rattle.session.specs.Records.{held_in, record_of}
use Rattle.session.specs.declared.Record.{Record}
use Rattle.commands.specs.Answers.{answer_of, key_of, word_of, answer_number}
use Rattle.commands.specs.declared.Answer.TheVariants.{Refused}
use Rattle.session.specs.declared.Outcome.{Outcome}
use Rattle.net.specs.declared.Verdict.TheVariants as Verdict
use Rattle.session.specs.declared.Start.{Start}

-- ---- Starting a session

-- A fresh record: the start places, the start couplings, no live firing; no key was given.
unfoldable pub fresh_of : List ℕ → Record
fresh_of s = record_of (begin (net_of s))

-- A record of zeros: no place, no bond, no firing.
unfoldable pub zero_record : Record
zero_record = record_of (record { marking = record { places = []; bonds = [] }; lines = []; given = key 0 })

-- The fresh record, or a record of zeros with the sheet's refusal.
unfoldable pub start_of : List ℕ → Start
start_of s = pick (clear (sheet_checks s)) (record { answer = Verdict.Accepted; session = fresh_of s }) (record { answer = Verdict.Refused (first (sheet_checks s)); session = zero_record })

-- ---- One command

-- A refused command gives back the very record, and key 0.
abbrev pub refusal : Record → ℕ → Outcome
refusal r n = record { answer = Refused n; key = key 0; session = r }

-- A journal's reply, as an outcome.
abbrev pub outcome_of : J.Reply → Outcome
outcome_of y = record { answer = answer_of y.answer; key = key_of y.answer; session = record_of y.journal }

-- What an accepted command does: what it does to the journal that the record holds.
abbrev pub accept_of : List ℕ → Record → List ℕ → Outcome
accept_of s r c = outcome_of (pick (eqb (kind_of c) 1) (fire_reply (net_of s) (held_in s r) (transition_named c)) (undo_reply (net_of s) (held_in s r) (key_named (held_in s r) c)))

-- A command on a sound record and an accepted sheet: 21, or 11 to 20 in order.
unfoldable pub perform_of : List ℕ → Record → List ℕ → Outcome
perform_of s r c = pick (clear (checks (net_of s) (held_in s r) c)) (accept_of s r c) (refusal r (first (checks (net_of s) (held_in s r) c)))

-- What every call on a record checks before its own: 1 to 9, then 10.
abbrev pub record_checks : List ℕ → Record → List Check → List Check
record_checks s r own = checks_in s r.marking r.firings r.given r.movers own

-- All checks of a command, in checking order: 1 to 9, 10, then 21, or 11 to 20.
abbrev pub command_checks : List ℕ → Record → List ℕ → List Check
command_checks s r c = record_checks s r (checks (net_of s) (held_in s r) c)

-- The outcome and the tally of a command.
pub record Result : Type 0 where
  pub outcome : Outcome
  pub tally : Tally

unfoldable pub outcome_for : List ℕ → Record → List ℕ → Outcome
outcome_for s r c = pick (clear (command_checks s r c)) (accept_of s r c) (refusal r (first (command_checks s r c)))

-- Every outcome whole: answer, key, record, tally, on acceptance and on refusal.
unfoldable pub command_of : List ℕ → Record → Tally → List ℕ → Result
command_of s r t c = record { outcome = outcome_for s r c; tally = counted_of t (word_of (outcome_for s r c).answer) }

-- What the call of a command promises of the outcome o and of the lent tally u: both are the definition's, and the answer's
-- number is that of the first check that holds, 0 where none does.
pub record Commanded (s : List ℕ) (r : Record) (t : Tally) (c : List ℕ) (o : Outcome) (u : Tally) : Type 0 where
  pub outcome : o ≡ (command_of s r t c).outcome
  pub tally : u ≡ (command_of s r t c).tally
  pub number : answer_number o.answer ≡ first (command_checks s r c)
