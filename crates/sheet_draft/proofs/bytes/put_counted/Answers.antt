-- `sheet_draft::bytes::put_counted`: the answers to the goals that the check leaves.
use Rattle.sheet_draft.proofs.Writing.{counted-written}
use Rattle.sheet_draft.specs.Bytes.{tagged}
use native.Mathlib.Omega.{arith}
use Prim.Native.Nat.{suc, ◌+◌, ◌≤◌}
use lib.ListN.{length}
use Rattle.sheet_draft.proofs.bytes.put_counted.Goals as goal

pub put_word-a-requires : goal.put_word-a-requires
put_word-a-requires c =
    let h : c.args.at + suc (length (tagged c.args.w c.args.tag c.args.acts.now)) ≤ length c.args.buf.now = c.requires.2 in
    omega arith

pub put_tagged-requires : goal.put_tagged-requires
put_tagged-requires c =
    let h : c.args.at + suc (length (tagged c.args.w c.args.tag c.args.acts.now)) ≤ length c.args.buf.now = c.requires.2 in
    (c.requires.0, omega arith)

pub returns : goal.returns
returns c = counted-written c.args.buf.now c.args.at c.args.w c.args.tag c.args.acts.now _ c.count_of-n.ensures c.put_word-a.ensures c.put_tagged.ensures
