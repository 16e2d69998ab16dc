-- `labels::set_members`: the answers to the goals that the check leaves.
use Rattle.std.proofs.Common.{ℕ, ◌<◌, ◌∙◌, List, refl, arith}
use Rattle.std.proofs.lemmas.List.{length-set}
use Rattle.net.specs.Limits.{max_bases}
use Rattle.labels.specs.Labelled.{label_in}
use Rattle.labels.proofs.Gathering.{gather_none, gather-turn, gather-end}
use Rattle.labels.proofs.set_members.Goals as goal

pub loop-p-init : goal.loop-p-init
loop-p-init c = (refl, gather_none max_bases c.args.l.now _ refl)

pub loop-p-preserved : goal.loop-p-preserved
loop-p-preserved c =
    let l : List ℕ = c.args.l.now in
    let m : List ℕ = c.loop-p.members in
    let p = c.loop-p.p in
    let low : label_in l p < max_bases = c.requires p (omega arith) in
    let w : ℕ = c.with_base.result in
    (length-set m (label_in l p) w ∙ c.loop-p.invariant.0, gather-turn max_bases l p m w (omega arith) c.loop-p.invariant.0 low c.with_base.ensures c.loop-p.invariant.1)

pub returns : goal.returns
returns c = (c.loop-p.invariant.0, gather-end max_bases c.args.l.now c.loop-p.members c.loop-p.p (omega arith) c.loop-p.invariant.1)
