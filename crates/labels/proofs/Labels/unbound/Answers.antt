-- `labels::Labels::unbound`: the answers to the goals that the check leaves.
use Rattle.net.specs.Limits.{max_bases}
use Rattle.labels.proofs.Trees.{parted-own}
use Rattle.labels.proofs.Labels.unbound.Goals as goal

pub set_members-requires : goal.set_members-requires
set_members-requires c = (parted-own max_bases _ c.own_parents-of.ensures).low

pub returns : goal.returns
returns c =
    let P = parted-own max_bases _ c.own_parents-of.ensures in
    record { parted = P; size = c.set_members.ensures.0; holds = λ p h. c.set_members.ensures.1 _ (P.low p h) }
