-- `way_back::key_unless`: the answers to the goals that the check leaves.
use Rattle.way_back.proofs.key_unless.Goals as goal

pub returns-then-live : goal.returns-then-live
returns-then-live c = rw c.if-live.true

pub returns-else-live : goal.returns-else-live
returns-else-live c = rw c.if-live.false
