-- `sheet_draft::bytes::put_stretches`: the answers to the goals that the check leaves.
use Rattle.sheet_draft.proofs.Writing.{joined-upto}
use Rattle.sheet_draft.specs.Bytes.{stretch_at}
use Rattle.text.proofs.Joined.{table-written}
use Rattle.text.proofs.Writes.{written-pair}
use native.Mathlib.Omega.{arith}
use mathlib.Core.Path.{◌≡◌}
use Rattle.sheet_draft.proofs.bytes.put_stretches.Goals as goal

pub put_stretch-pos-requires : goal.put_stretch-pos-requires
put_stretch-pos-requires c =
    let u = joined-upto (stretch_at c.args.acts.now) c.args.n c.loop-j.j (omega arith) in
    (omega arith, c.requires.1 c.loop-j.j (omega arith), omega (arith, u, c.loop-j.invariant.count))

pub loop-j-preserved : goal.loop-j-preserved
loop-j-preserved c = table-written (stretch_at c.args.acts.now) c.loop-j.j c.loop-j.invariant c.put_stretch-pos.ensures

pub returns : goal.returns
returns c =
    let e : c.loop-j.j ≡ c.args.n = omega arith in
    rw (← e) (written-pair c.loop-j.invariant)
