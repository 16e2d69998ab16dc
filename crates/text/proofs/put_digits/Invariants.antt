-- `text::put_digits`: what its loop keeps.
use lib.Seq.{sets}
use Rattle.text.specs.Decimal.{digits}
use Rattle.text.proofs.Loops.{Left}
use Rattle.text.proofs.put_digits.Given as goal

abbrev pub invariant-loop-j : goal.invariant-loop-j
invariant-loop-j l = Left l.at (sets l.initial.buf l.at (digits l.places l.n)) l.buf l.rest l.j
