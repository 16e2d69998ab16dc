-- `labels::flatten`: the answers to the goals that the check leaves.
use Rattle.std.proofs.Common.{◌≡◌, ◌<◌, ◌≤◌, ℕ, ◌∙◌, List, length, get_or, arith, rules}
use Rattle.std.proofs.lemmas.List.{length-set}
use Rattle.net.specs.Limits.{max_bases}
use Rattle.bonds.proofs.Fill.{fill-turn, fill_end}
use Rattle.labels.proofs.Trees.{spans-down-kept, flat-turn, flat-parted}
use Rattle.labels.proofs.flatten.Goals as goal

pub loop-p-preserved : goal.loop-p-preserved
loop-p-preserved c =
    let p = c.loop-p.p in
    let l : List ℕ = c.loop-p.l in
    let size : length c.args.l.now ≡ max_bases = search rules in
    let h : p < max_bases = omega arith in
    let up : get_or l p 0 ≤ p = c.loop-p.invariant.0 p h in
    let d : get_or l (get_or l p 0) 0 ≤ get_or l p 0 = c.loop-p.invariant.0 (get_or l p 0) (omega arith) in
    let v : ℕ = get_or l (get_or l p 0) 0 in (
      spans-down-kept max_bases l v p c.loop-p.invariant.0 c.loop-p.invariant.2 h (omega arith),
      λ f F. fill-turn f p c.args.l.now l 0 v (omega arith) (flat-turn max_bases c.args.l.now f F p l h (c.loop-p.invariant.1 f F)) (c.loop-p.invariant.1 f F),
      length-set l p v ∙ c.loop-p.invariant.2,
    )

pub returns : goal.returns
returns c =
    let size : length c.args.l.now ≡ max_bases = search rules in
    λ bs S. flat-parted max_bases c.args.l.now c.loop-p.l bs
    (λ f F. fill_end f c.loop-p.p max_bases c.args.l.now c.loop-p.l size (omega arith) (c.loop-p.invariant.1 f F)) S
