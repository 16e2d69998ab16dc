-- `enabling::in_line`: what its loops keep, and by what they end.
-- one turn meets no more than there are
use mathlib.Core.Path.{◌≡◌}
use Prim.Native.Nat.{◌-◌, ◌≤◌}
use Rattle.format.specs.Arcs.{in_count, nth_in_bond, out_count, nth_out_bond}
use Rattle.enabling.proofs.Line.{onward}
use Rattle.enabling.proofs.in_line.Given as goal

abbrev pub invariant-loop-met : goal.invariant-loop-met
invariant-loop-met l =
    (l.ins ≡ in_count l.step) × (l.outs ≡ out_count l.step) × (l.met ≤ l.ins) × (l.i ≤ l.outs)
    × (onward (in_count l.step) (out_count l.step) (nth_in_bond l.step) (nth_out_bond l.step) 0 0 ≡ onward (in_count l.step) (out_count l.step) (nth_in_bond l.step) (nth_out_bond l.step) l.met l.i)

abbrev pub decreases-loop-met : goal.decreases-loop-met
decreases-loop-met l = l.outs - l.i
