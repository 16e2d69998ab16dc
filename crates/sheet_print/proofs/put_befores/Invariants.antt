-- `sheet_print::put_befores`: what its loop keeps.
use Rattle.net.specs.Tests.{table}
use Rattle.text.specs.Joined.{joined}
use Rattle.text.proofs.Writes.{Written}
use Rattle.sheet_print.specs.Pieces.{before_at}
use Rattle.sheet_print.proofs.put_befores.Given as goal

abbrev pub invariant-loop-i : goal.invariant-loop-i
invariant-loop-i l = Written l.initial.buf l.at (joined (table l.i (before_at l.bytes))) l.pos l.buf
