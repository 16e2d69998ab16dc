-- A whole list of commands, given as bytes (01, commands, record, tally), and what it answers from a sound record.
-- Definitions only.
use Rattle.std.specs.Prelude.{◌≡◌, Bool, true, ◌&&◌, List, map, eqb, leb, ℕ}
use Rattle.std.proofs.lemmas.List.Edits.{sets}
use Rattle.net.specs.Tests.{pick}
use Rattle.command_list.specs.Commands.{commands_in}
use Rattle.tally.specs.declared.Tally.{Tally}
use Rattle.session.specs.declared.Record.{Record}
use Rattle.commands.specs.declared.Answer.{Answer}
use Rattle.commands.specs.Answers.{word_of, value_of, answer_number}
use Rattle.session.specs.Runs.{Answered, Session, run_of}

-- ---- The answers as numbers: each as its word and its value

abbrev pub words_of : Session → List ℕ
words_of y = map (λ (a : Answered). word_of a.answer) y.answers

abbrev pub values_of : Session → List ℕ
values_of y = map (λ (a : Answered). value_of a.answer a.key) y.answers

-- A refusal of a command on a sound record is 11 to 21: proofs/Values shows it.
abbrev pub low_refusal : Answer → Bool
low_refusal a = pick (eqb (word_of a) 2) (leb 11 (answer_number a) && leb (answer_number a) 21) true

-- ---- The run

-- the session after them all
unfoldable pub ran_of : List ℕ → List ℕ → Record → Tally → Session
ran_of s b r t = run_of s (commands_in b) r t

-- What `run` promises: the record and the tally are those of the definition, and the two lent lists have the answers' words
-- and values from entry 0 on; what lies after them stays.
pub record RunGives (y : Session) (words₀ values₀ : List ℕ) (session : Record) (tally : Tally) (words values : List ℕ) : Type 0 where
  pub session_is : session ≡ y.session
  pub tally_is : tally ≡ y.tally
  pub words_are : words ≡ sets words₀ 0 (words_of y)
  pub values_are : values ≡ sets values₀ 0 (values_of y)
