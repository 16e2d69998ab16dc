-- `text::digit_count`: what its loops keep, and by what they end.
use Prim.Native.Nat.{◌-◌, ◌≤◌, ◌<◌}
use Rattle.text.proofs.Loops.{Counted}
use Rattle.text.proofs.digit_count.Given as goal

abbrev pub invariant-loop-unit : goal.invariant-loop-unit
invariant-loop-unit l = (0 < l.unit) × (l.unit ≤ 4294967295) × (l.count ≤ l.unit) × Counted l.places l.n l.unit l.count

abbrev pub decreases-loop-unit : goal.decreases-loop-unit
decreases-loop-unit l = l.n - l.unit
