-- `labels::Labels::remake`: the answers to the goals that the check leaves.
use Rattle.labels.proofs.Labels.remake.Goals as goal

pub returns : goal.returns
returns c =
    let P = c.label_all.ensures in
    record { parted = P; size = c.set_members.ensures.0; holds = λ p h. c.set_members.ensures.1 _ (P.low p h) }
