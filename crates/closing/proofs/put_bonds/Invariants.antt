-- `closing::put_bonds`: what its loop keeps.
use Rattle.net.specs.Tests.{table}
use Rattle.text.specs.Joined.{joined}
use Rattle.text.proofs.Writes.{Written}
use Rattle.closing.proofs.Lines.{bond_at}
use Rattle.closing.proofs.put_bonds.Given as goal

abbrev pub invariant-loop-i : goal.invariant-loop-i
invariant-loop-i l = Written l.initial.buf l.at (joined (table l.i (bond_at l.lo l.hi))) l.pos l.buf
