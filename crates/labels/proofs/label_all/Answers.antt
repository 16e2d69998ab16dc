-- `labels::label_all`: the answers to the goals that the check leaves.
use Rattle.labels.proofs.label_all.Goals as goal

pub returns : goal.returns
returns c = c.flatten.ensures _ c.unite_all.ensures
