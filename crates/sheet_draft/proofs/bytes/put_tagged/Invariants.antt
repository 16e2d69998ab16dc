-- `sheet_draft::bytes::put_tagged`: what its loop keeps.
use Rattle.sheet_draft.specs.Bytes.{tagged}
use Rattle.text.proofs.Writes.{Written}
use lib.ListN.{take}
use Rattle.sheet_draft.proofs.bytes.put_tagged.Given as goal

abbrev pub invariant-loop-x : goal.invariant-loop-x
invariant-loop-x l = Written l.initial.buf l.at (tagged l.w l.tag (take l.x-index l.acts)) l.pos l.buf
