-- `sheet_draft::bytes::put_pairs`: what its loop keeps.
use Rattle.sheet_draft.specs.Bytes.{stretches_in}
use Rattle.text.proofs.Writes.{Written}
use Rattle.encode.specs.Encoding.{pairs}
use Rattle.text.specs.Joined.{joined}
use mathlib.Core.Path.{◌≡◌}
use Prim.Native.Nat.{◌+◌}
use lib.ListN.{length}
use Rattle.sheet_draft.proofs.bytes.put_pairs.Given as goal

abbrev pub invariant-loop-j : goal.invariant-loop-j
invariant-loop-j l = (l.offset ≡ l.from + length (joined (stretches_in l.j l.acts))) × Written l.initial.buf l.at (pairs l.from (stretches_in l.j l.acts)) l.pos l.buf
