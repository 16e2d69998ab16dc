-- `live_list::no_live`: the answers to the goals that the check leaves.
use mathlib.Core.Path.{refl}
use Rattle.live_list.specs.List.{not_listed}
use Rattle.live_list.proofs.no_live.Goals as goal

pub returns : goal.returns
unfolding not_listed
returns c = refl
