-- What the definitions come to: the line has room in every buffer that is accepted, and lines as they read.
-- Assumes nothing.
use mathlib.Core.Path.{◌≡◌, refl}
use Prim.Native.Nat.{ℕ, ◌≤◌, ◌<◌}
use native.Mathlib.Omega.{arith}
use mathlib.Core.List.{List, [], ◌∷◌, ◌++◌}
use lib.ListN.{length, drop, length-append}
use borrow.Author.Tests.{le-ltb}
use Rattle.net.specs.declared.Key.{Key}
use Rattle.net.specs.Journal.{key}
use Rattle.text.specs.Decimal.{digits, decimal}
use Rattle.text.specs.Ascii.{ascii}
use Rattle.text.proofs.Digits.{digits-length}
use Rattle.text.proofs.Writes.{sets-front}
use Rattle.commands.specs.declared.Answer.{Answer}
use Rattle.commands.specs.declared.Answer.TheVariants.{Fired, Undone, Refused}
use Rattle.report.specs.Lines.{word_text, answer_line, told_line, value_limit, min_line, buffer_of}
use Rattle.report.proofs.Places.{decimal-five}
use Rattle.report.proofs.Pieces.{room}

-- a line whose value is below the limit of its word is no longer than the shortest buffer
pub words-fit : (n w v : ℕ) → v < value_limit w → length (answer_line n w v) ≤ min_line
unfolding answer_line decimal
words-fit n w v h =
    let fit = room w v h in
    let t : digits 5 v ≡ digits 10 v = decimal-five v fit.1 in
    rw (← t) (omega (arith, fit.2, digits-length 10 n, length-append (digits 10 n) (word_text w), length-append (digits 10 n ++ word_text w) (digits 5 v), length-append (digits 10 n ++ word_text w ++ digits 5 v) (10 ∷ [])))

-- a refusal's number has 8 bits, as in the code
abbrev pub Small : Answer → Type 0
Small Fired = Unit {0}
Small Undone = Unit {0}
Small (Refused n) = n < 256

-- no line is longer than the shortest buffer: a refusal's number has 8 bits, a serial 16
pub line-fits : (n : ℕ) (a : Answer) (k : Key) → Small a → k.0 < 65536 → length (told_line n a k) ≤ min_line
line-fits n Fired k h l = words-fit n 0 k.0 l
line-fits n Undone k h l = words-fit n 1 k.0 l
line-fits n (Refused r) k h l = words-fit n 2 r (omega (arith, h))

-- an accepted buffer: the whole line, and behind it what the buffer held there
pub line-then-rest : (b : List ℕ) (n : ℕ) (a : Answer) (k : Key) → Small a → k.0 < 65536 → min_line ≤ length b → buffer_of b n a k ≡ told_line n a k ++ drop (length (told_line n a k)) b
unfolding buffer_of
line-then-rest b n a k ha hk h =
    let l : length (told_line n a k) ≤ length b = omega (arith, h, line-fits n a k ha hk) in
    rw (le-ltb (length b) min_line h) (sets-front (told_line n a k) b l)

-- lines as they read
pub fired-reads : told_line 1 Fired (key 1) ≡ ascii "1 fired 1\n"
unfolding answer_line word_text decimal
fired-reads = refl

pub refused-reads : told_line 20 (Refused 13) (key 0) ≡ ascii "20 refused 13\n"
unfolding answer_line word_text decimal
refused-reads = refl

-- a sheet that is too short
pub refused-by-one : told_line 1 (Refused 1) (key 0) ≡ ascii "1 refused 1\n"
unfolding answer_line word_text decimal
refused-by-one = refl

-- `4294967295 undone 65535` needs the shortest buffer whole
pub longest : length (told_line 4294967295 Undone (key 65535)) ≡ min_line
unfolding answer_line word_text decimal
longest = refl
