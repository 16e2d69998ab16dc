-- What a command's bytes say, and what an answer says (01, commands, record, tally; the exam program).
-- Definitions only.
use Rattle.std.specs.Prelude.{List, ℕ, eqb, Option, Some, None}
use Rattle.net.specs.Tests.{pick}
use Rattle.net.specs.Journal as J
use Rattle.net.specs.Journal.{key, kind_of, number_of, unreadable, transition_named}
use Rattle.net.specs.declared.Key.{Key}
use Rattle.commands.specs.declared.Command.TheVariants.{Fire, UndoLast, Undo}
use Rattle.commands.specs.declared.Command.{Command}
use Rattle.commands.specs.declared.Answer.{Answer}
use Rattle.commands.specs.declared.Answer.TheVariants.{Fired, Undone, Refused}

-- ---- Decoding

-- What the kind and the number say (01, commands): kind 1 fires a transition, kind 2 takes back the last firing and has
-- number 0, kind 3 takes back a firing by its key. None: it cannot be read.
abbrev pub decoded_of : List ℕ → Option Command
decoded_of c = pick (unreadable c) None
    (Some (pick (eqb (kind_of c) 1) (Fire (transition_named c)) (pick (eqb (kind_of c) 2) UndoLast (Undo (key (number_of c))))))

-- ---- Answers

-- A journal's answer, by the enum's cases, and its key.
abbrev pub answer_of : J.Answer → Answer
answer_of (J.fired k) = Fired
answer_of (J.undone k) = Undone
answer_of (J.refused n) = Refused n

abbrev pub key_of : J.Answer → Key
key_of (J.fired k) = k
key_of (J.undone k) = k
key_of (J.refused n) = key 0

-- What an answer says (01, the exam program): a word, and the number after it. Word 0 is fired and 1 undone, with the
-- serial; 2 is refused, with the list's number. The tally's counts stand in the same order, so this one numbering serves
-- the tally, the answer line and a list of answers.
abbrev pub word_of : Answer → ℕ
word_of Fired = 0
word_of Undone = 1
word_of (Refused n) = 2

abbrev pub value_of : Answer → Key → ℕ
value_of Fired k = k.0
value_of Undone k = k.0
value_of (Refused n) k = n

-- a serial has 16 bits, a refusal's number 8
abbrev pub value_bound : Answer → ℕ
value_bound Fired = 65536
value_bound Undone = 65536
value_bound (Refused n) = 256

-- The journal's answer that a word and a value say: so no two answers say the same (proofs/Answers).
abbrev pub heard_of : ℕ → ℕ → J.Answer
heard_of word value = pick (eqb word 0) (J.fired (key value)) (pick (eqb word 1) (J.undone (key value)) (J.refused value))

-- Document 01's number of each answer: the list's number where it says refused, 0 where the command is accepted.
abbrev pub answer_number : Answer → ℕ
answer_number a = pick (eqb (word_of a) 2) (value_of a (key 0)) 0
