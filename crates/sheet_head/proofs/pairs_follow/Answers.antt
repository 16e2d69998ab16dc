-- `sheet_head::pairs_follow`: the answers to the goals that the check leaves.
use Rattle.std.proofs.Common.{arith, ◌≡◌, ◌-◌, ◌+◌, ◌∙◌}
use Rattle.sheet_head.proofs.Pairs.{follow-on}
use Rattle.sheet_head.proofs.pairs_follow.Goals as goal

pub loop-k-preserved : goal.loop-k-preserved
loop-k-preserved c =
    let m = c.from.result + 2 - c.loop-k.k in
    let e : m - 1 ≡ c.from.result + 2 - (c.loop-k.k + 1) = omega arith in
    record {
      at_most = omega arith;
      rest = c.loop-k.invariant.rest ∙ (follow-on _ _ _ m _ (omega arith) c.pair_offset.ensures.value c.if-pair_offset-at.false _ c.pair_length-at.ensures.value ∙ rw e);
    }
