-- A list of commands, each on the record and with the tally that the one before handed back.
-- Definitions only.
use Rattle.std.specs.Prelude.{List, [], ◌∷◌, ℕ}
use Rattle.net.specs.Journal as J
use Rattle.net.specs.declared.Key.{Key}
use Rattle.tally.specs.declared.Tally.{Tally}
use Rattle.session.specs.declared.Record.{Record}
use Rattle.session.specs.Commands.{Result, command_of}
use Rattle.commands.specs.Answers.{answer_of, key_of}
use Rattle.commands.specs.declared.Answer.{Answer}

-- An answer as a list of them keeps it.
pub record Answered : Type 0 where
  pub answer : Answer
  pub key : Key

-- a journal's answer
abbrev pub answered : J.Answer → Answered
answered a = record { answer = answer_of a; key = key_of a }

-- the record, the tally and the answers after the commands
pub record Session : Type 0 where
  pub session : Record
  pub tally : Tally
  pub answers : List Answered

abbrev pub run_of : List ℕ → List (List ℕ) → Record → Tally → Session
run_of s [] r t = record { session = r; tally = t; answers = [] }
run_of s (c ∷ cs) r t =
    let y : Result = command_of s r t c in
    let rest : Session = run_of s cs y.outcome.session y.tally in
    record { session = rest.session; tally = rest.tally; answers = record { answer = y.outcome.answer; key = y.outcome.key } ∷ rest.answers }
