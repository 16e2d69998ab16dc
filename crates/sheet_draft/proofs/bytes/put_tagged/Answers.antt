-- `sheet_draft::bytes::put_tagged`: the answers to the goals that the check leaves.
use Rattle.sheet_draft.proofs.Writing.{tagged-written}
use lib.Seq.{take_all}
use Rattle.sheet_draft.proofs.Tagged.{room-one}
use Rattle.text.proofs.Writes.{written-pair}
use native.Mathlib.Omega.{arith}
use Prim.Native.Nat.{◌≤◌}
use lib.ListN.{length}
use Rattle.sheet_draft.proofs.bytes.put_tagged.Goals as goal

pub put_some-pos-requires : goal.put_some-pos-requires
put_some-pos-requires c =
    let (p, q) = room-one c.args.w c.args.tag c.args.acts.now c.loop-x.x-index c.width_of.result c.requires.0 (omega arith) c.width_of.ensures in
    (p, omega (arith, q, c.loop-x.invariant.count))

pub loop-x-preserved : goal.loop-x-preserved
loop-x-preserved c =
    tagged-written c.args.w c.args.tag c.args.acts.now c.loop-x.x-index _ (omega arith) c.width_of.ensures c.loop-x.invariant c.put_some-pos.ensures

pub returns : goal.returns
returns c =
    let e : length c.args.acts.now ≤ c.loop-x.x-index = omega arith in
    rw (← take_all c.loop-x.x-index c.args.acts.now e) (written-pair c.loop-x.invariant)
