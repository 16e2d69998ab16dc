-- `script_make::input::place_of` is safe and ends.
use Prim.Native.Nat.{◌-◌}
use lib.ListN.{length}
use Rattle.script_make.proofs.input.place_of.Given as goal

abbrev pub decreases-loop-at : goal.decreases-loop-at
decreases-loop-at l = length l.text - l.at
