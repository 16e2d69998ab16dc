-- `enabling::torn_kept`: the answers to the goals that the check leaves.
use Rattle.enabling.proofs.torn_kept.Goals as goal

pub returns : goal.returns
returns c = c.torn_with.ensures _ c.kept_labels.ensures.parted
