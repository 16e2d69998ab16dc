-- `engine::label_fired`: the answers to the goals that the check leaves.
use mathlib.Core.Path.{sym}
use Rattle.enabling.proofs.Keeping.{labelled-is}
use Rattle.engine.proofs.label_fired.Goals as goal

pub returns-then-whole : goal.returns-then-whole
returns-then-whole c = λ bs L e. labelled-is _ _ _ _ (sym (e c.if-whole.true)) (c.join_out_bonds.ensures bs L)
