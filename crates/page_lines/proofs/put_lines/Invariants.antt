-- `page_lines::put_lines`: what its loop keeps.
use mathlib.Core.Path.{◌≡◌}
use Prim.Native.Nat.{◌*◌, ◌+◌, ◌≤◌}
use Rattle.net.specs.Tests.{table}
use Rattle.page_lines.specs.Page.{line_at, rows_in}
use Rattle.text.proofs.Writes.{Written}
use Rattle.text.specs.Joined.{joined}
use Rattle.page_lines.proofs.put_lines.Given as goal

abbrev pub invariant-loop-i : goal.invariant-loop-i
invariant-loop-i l =
    (l.pos ≡ 41 * l.i) × (l.from ≤ 3276750) × Written l.initial.buf 0 (joined (table l.i (λ j. line_at (rows_in l.keys l.steps l.moved l.n) (l.from + j)))) l.pos l.buf
