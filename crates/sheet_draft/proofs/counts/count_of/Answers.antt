-- `sheet_draft::counts::count_of`: the answers to the goals that the check leaves.
use Rattle.std.proofs.Common.{◌≤◌, length, get_or, refl, ap, ◌∙◌, arith}
use lib.Seq.{take_all}
use Rattle.sheet_draft.specs.Bytes.{count_of}
use Rattle.sheet_draft.proofs.Tagged.{count-more, width-upto}
use Rattle.sheet_draft.proofs.counts.count_of.Goals as goal

pub loop-x-init : goal.loop-x-init
loop-x-init c = (omega arith, refl)

pub overflow_add-n : goal.overflow_add-n
overflow_add-n c =
    let z = width-upto (get_or c.args.acts.now c.loop-x.x-index 0) c.args.tag 1 1 c.width_of-n.result c.width_of-n.ensures (omega arith) in
    omega arith

pub loop-x-preserved : goal.loop-x-preserved
loop-x-preserved c =
    let z = width-upto (get_or c.args.acts.now c.loop-x.x-index 0) c.args.tag 1 1 c.width_of-n.result c.width_of-n.ensures (omega arith) in
    let e = count-more c.args.tag c.args.acts.now c.loop-x.x-index (omega arith) in
    (omega arith, omega (arith, e, c.width_of-n.ensures))

pub returns : goal.returns
returns c =
    let e : length c.args.acts.now ≤ c.loop-x.x-index = omega arith in
    c.loop-x.invariant.1 ∙ ap (count_of c.args.tag) (take_all c.loop-x.x-index c.args.acts.now e)
