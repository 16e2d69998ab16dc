-- The answer line and the buffer that it is written into (01, the exam program).
-- Definitions only.
use Rattle.std.specs.Prelude.{◌≡◌, false, ℕ, ◌<◌, List, ◌++◌, ltb, eqb, length}
use Rattle.std.proofs.lemmas.List.Edits.{sets}
use Rattle.net.specs.Tests.{pick}
use Rattle.net.specs.declared.Key.{Key}
use Rattle.text.specs.Decimal.{decimal}
use Rattle.text.specs.Ascii.{ascii}
use Rattle.commands.specs.Answers.{word_of, value_of}
use Rattle.commands.specs.declared.Answer.{Answer}
use Rattle.report.specs.declared.Written.{Written}

-- ---- The line

-- a word as text, with the space before it and the space after it: 0 is fired, 1 is undone, any other is refused
unfoldable pub word_text : ℕ → List ℕ
word_text word = pick (eqb word 0) (ascii " fired ") (pick (eqb word 1) (ascii " undone ") (ascii " refused "))

-- the command's number, the word, the value, and the newline
unfoldable pub answer_line : ℕ → ℕ → ℕ → List ℕ
answer_line number word value = decimal number ++ word_text word ++ decimal value ++ ascii "\n"

-- the line of an answer: fired and undone tell the serial, refused tells the refusal's number
abbrev pub told_line : ℕ → Answer → Key → List ℕ
told_line number a k = answer_line number (word_of a) (value_of a k)

-- the values that a line has room for, by the word: a serial has 16 bits, a refusal's number at most three digits
abbrev pub value_limit : ℕ → ℕ
value_limit word = pick (ltb word 2) 65536 1000

-- so a writer of a line asks only that a refusal's number is that low
abbrev pub LowValue : ℕ → ℕ → Type 0
LowValue word value = ltb word 2 ≡ false → value < 1000

-- ---- The buffer

-- the shortest buffer that is written to, and the refusal of a shorter one
abbrev pub min_line : ℕ
min_line = 24

abbrev pub line_refusal : ℕ → ℕ
line_refusal n = pick (ltb n min_line) 22 0

-- what a buffer of n bytes is answered
unfoldable pub written_of : ℕ → ℕ → Answer → Key → Written
written_of n number a k = record { refusal = line_refusal n; length = pick (ltb n min_line) 0 (length (told_line number a k)) }

-- what a buffer then holds: what it held, or the line from byte 0 on and behind it what it held
unfoldable pub buffer_of : List ℕ → ℕ → Answer → Key → List ℕ
buffer_of b number a k = pick (ltb (length b) min_line) b (sets b 0 (told_line number a k))
