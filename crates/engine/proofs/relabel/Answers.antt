-- `engine::relabel`: the answers to the goals that the check leaves.
use Rattle.engine.proofs.relabel.Goals as goal

pub returns-then-same : goal.returns-then-same
returns-then-same c = c.requires.labelled c.if-same.true

pub returns : goal.returns
returns c = c.remake.ensures
