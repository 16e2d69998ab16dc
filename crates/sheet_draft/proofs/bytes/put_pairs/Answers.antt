-- `sheet_draft::bytes::put_pairs`: the answers to the goals that the check leaves.
use Rattle.sheet_draft.proofs.Writing.{joined-upto, all-pairs, pairs-written, joined-length-more}
use Rattle.sheet_draft.specs.Bytes.{stretch_at}
use Rattle.text.proofs.Writes.{written_none, written-pair}
use borrow.Author.Rules.{rules}
use native.Mathlib.Omega.{arith}
use mathlib.Core.Path.{◌≡◌}
use Rattle.sheet_draft.proofs.bytes.put_pairs.Goals as goal

pub loop-j-init : goal.loop-j-init
loop-j-init c = (search rules, written_none _ _)

pub overflow_cast-offset : goal.overflow_cast-offset
overflow_cast-offset c =
    let u = joined-upto (stretch_at c.args.acts.now) c.args.n c.loop-j.j (omega arith) in
    omega (arith, u)

pub overflow_cast-size : goal.overflow_cast-size
overflow_cast-size c =
    let u = joined-upto (stretch_at c.args.acts.now) c.args.n c.loop-j.j (omega arith) in
    omega (arith, u, c.stretch_size-size.ensures)

pub put_pair-pos-requires : goal.put_pair-pos-requires
put_pair-pos-requires c = omega (arith, c.loop-j.invariant.1.count, all-pairs c.args.from c.loop-j.j c.args.acts.now)

pub overflow_add-offset : goal.overflow_add-offset
overflow_add-offset c =
    let u = joined-upto (stretch_at c.args.acts.now) c.args.n c.loop-j.j (omega arith) in
    omega (arith, u, c.stretch_size-size.ensures)

pub loop-j-preserved : goal.loop-j-preserved
loop-j-preserved c =
    let f = stretch_at c.args.acts.now in
    let s = c.stretch_size-size.ensures in
    let m = joined-length-more f c.loop-j.j in
    let w = pairs-written c.args.from f c.loop-j.j _ _ c.loop-j.invariant.0 s c.loop-j.invariant.1 c.put_pair-pos.ensures in
    (omega (arith, m, s), w)

pub returns : goal.returns
returns c =
    let e : c.loop-j.j ≡ c.args.n = omega arith in
    rw (← e) (written-pair c.loop-j.invariant.1)
