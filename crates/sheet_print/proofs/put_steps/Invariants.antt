-- `sheet_print::put_steps`: what its loop keeps.
use Rattle.net.specs.Tests.{table}
use Rattle.text.specs.Joined.{joined}
use Rattle.text.proofs.Writes.{Written}
use Rattle.sheet_print.specs.Pieces.{step_at}
use Rattle.sheet_print.proofs.put_steps.Given as goal

abbrev pub invariant-loop-k : goal.invariant-loop-k
invariant-loop-k l = Written l.initial.buf l.at (joined (table l.k (step_at l.sheet))) l.pos l.buf
