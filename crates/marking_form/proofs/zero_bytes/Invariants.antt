-- `marking_form::zero_bytes`: what its loop keeps.
use mathlib.Core.Path.{◌≡◌}
use mathlib.Core.Bool.{◌&&◌}
use Rattle.marking.specs.Form.{zero_from}
use Rattle.marking_form.proofs.zero_bytes.Given as goal

abbrev pub invariant-loop-i : goal.invariant-loop-i
invariant-loop-i l = zero_from l.k l.a ≡ (l.zero && zero_from l.i l.a)
