-- `bonds::is_bond`: the answers to the goals that the check leaves.
use mathlib.Core.Path.{refl}
use Rattle.bonds.proofs.is_bond.Goals as goal

pub returns : goal.returns
returns c = refl
