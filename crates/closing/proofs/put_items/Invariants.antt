-- `closing::put_items`: what its loop keeps.
use Rattle.net.specs.Tests.{table}
use Rattle.text.specs.Joined.{joined}
use Rattle.text.proofs.Writes.{Written}
use Rattle.closing.proofs.Lines.{item_at}
use Rattle.closing.proofs.put_items.Given as goal

abbrev pub invariant-loop-n : goal.invariant-loop-n
invariant-loop-n l = Written l.initial.buf l.at (joined (table l.n-index (item_at l.ns))) l.pos l.buf
