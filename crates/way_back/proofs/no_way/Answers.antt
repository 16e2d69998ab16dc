-- `way_back::no_way`: the answers to the goals that the check leaves.
use mathlib.Core.Path.{refl}
use Rattle.way_back.specs.Answer.{no_way_back}
use Rattle.way_back.proofs.no_way.Goals as goal

pub returns : goal.returns
unfolding no_way_back
returns c = refl
