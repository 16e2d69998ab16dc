-- `report::put_answers`: what its loop keeps.
use Prim.Native.Nat.{◌*◌, ◌≤◌}
use Rattle.net.specs.Tests.{table}
use Rattle.text.specs.Joined.{joined}
use Rattle.text.proofs.Writes.{Written}
use Rattle.report.specs.Lines.{min_line}
use Rattle.report.specs.Said.{line_at}
use Rattle.report.proofs.put_answers.Given as goal

abbrev pub invariant-loop-i : goal.invariant-loop-i
invariant-loop-i l = (l.pos ≤ min_line * l.i) × Written l.initial.buf 0 (joined (table l.i (line_at l.words l.values))) l.pos l.buf
