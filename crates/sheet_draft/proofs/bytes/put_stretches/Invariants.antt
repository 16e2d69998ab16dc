-- `sheet_draft::bytes::put_stretches`: what its loop keeps.
use Rattle.sheet_draft.specs.Bytes.{stretches_in}
use Rattle.text.proofs.Writes.{Written}
use Rattle.text.specs.Joined.{joined}
use Rattle.sheet_draft.proofs.bytes.put_stretches.Given as goal

abbrev pub invariant-loop-j : goal.invariant-loop-j
invariant-loop-j l = Written l.initial.buf l.at (joined (stretches_in l.j l.acts)) l.pos l.buf
