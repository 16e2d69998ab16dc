-- `spread::tell_none`: the answers to the goals that the check leaves.
use mathlib.Core.Path.{refl}
use Rattle.spread.specs.Spread.{not_told}
use Rattle.spread.proofs.tell_none.Goals as goal

pub returns : goal.returns
unfolding not_told
returns c = refl
