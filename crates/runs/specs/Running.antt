-- What a record holds after one command, and after a list of them: what the journal's own replies say (net/specs/Journal).
-- Definitions only.
use Rattle.std.specs.Prelude.{◌≡◌, List, [], ◌∷◌, map, ℕ}
use Rattle.std.proofs.lemmas.List.Edits.{sets}
use Rattle.net.specs.Limits.{max_bases}
use Rattle.net.specs.Net.{Net}
use Rattle.net.specs.Journal as J
use Rattle.net.specs.Journal.{Journal, Reply, play, answers}
use Rattle.marking.specs.Form.{laid}
use Rattle.firings.specs.Lines.{firings_of}
use Rattle.movers.specs.Lamp.{last_movers}
use Rattle.tally.specs.Counts.{counted_of}
use Rattle.tally.specs.declared.Tally.{Tally}
use Rattle.commands.specs.Answers.{answer_of, key_of, word_of, value_of}
use Rattle.runs.specs.declared.Held.{Held}
use Rattle.runs.specs.declared.Performed.{Performed}
use Rattle.runs.specs.declared.Stepped.{Stepped}

-- a journal as a record holds it: 0 in every unused entry
abbrev pub held_of : Journal → Held
held_of j = record { marking = laid j.marking; firings = firings_of j.lines; movers = last_movers max_bases j.lines; given = j.given }

-- One command: the reply's answer, its key, and what is held then.
abbrev pub performed_of : Reply → Performed
performed_of y = record { answer = answer_of y.answer; key = key_of y.answer; held = held_of y.journal }

-- ---- The answers as numbers, and what they add to a tally

abbrev pub said_word : J.Answer → ℕ
said_word a = word_of (answer_of a)

abbrev pub said_value : J.Answer → ℕ
said_value a = value_of (answer_of a) (key_of a)

-- the tally after the answers: each command adds one to one count
abbrev pub tallied : List J.Answer → Tally → Tally
tallied [] t = t
tallied (a ∷ rest) t = tallied rest (counted_of t (said_word a))

-- ---- What the functions in place promise

-- One command of a list, with reply y: what is held, the tally, the answer as word and value.
pub record StepDid (y : Reply) (t : Tally) (x : Stepped) (h : Held) : Type 0 where
  pub held_is : h ≡ held_of y.journal
  pub tally_is : x.tally ≡ counted_of t (said_word y.answer)
  pub word_is : x.word ≡ said_word y.answer
  pub value_is : x.value ≡ said_value y.answer

-- A list: what is held and the tally are the journal's, and the two lent lists have the answers' words and values from entry 0 on;
-- what lies after them stays.
pub record RanOn (net : Net) (j : Journal) (cs : List (List ℕ)) (t : Tally) (words₀ values₀ : List ℕ) (h : Held) (u : Tally) (words values : List ℕ) : Type 0 where
  pub held_is : h ≡ held_of (play net cs j)
  pub tally_is : u ≡ tallied (answers net cs j) t
  pub words_are : words ≡ sets words₀ 0 (map said_word (answers net cs j))
  pub values_are : values ≡ sets values₀ 0 (map said_value (answers net cs j))
