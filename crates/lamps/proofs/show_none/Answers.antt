-- `lamps::show_none`: the answers to the goals that the check leaves.
use mathlib.Core.Path.{refl}
use Rattle.lamps.specs.Lamps.{not_shown}
use Rattle.lamps.proofs.show_none.Goals as goal

pub returns : goal.returns
unfolding not_shown
returns c = refl
