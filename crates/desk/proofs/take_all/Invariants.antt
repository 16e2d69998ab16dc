-- `desk::take_all` is safe and ends.
use Prim.Native.Nat.{◌-◌}
use Rattle.desk.proofs.take_all.Given as goal

abbrev pub invariant-loop-i : goal.invariant-loop-i
invariant-loop-i l = Unit {0}

abbrev pub decreases-loop-i : goal.decreases-loop-i
decreases-loop-i l = l.count - l.i
