-- `sheet::transitions_refusal`: what its loop keeps.
use Rattle.sheet.specs.Checks.{refusal, checks_from}
use Rattle.format.specs.Parts.{transitions_of}
use mathlib.Core.Path.{◌≡◌}
use Prim.Native.Nat.{◌-◌}
use Rattle.sheet.proofs.transitions_refusal.Given as goal

abbrev pub invariant-loop-k : goal.invariant-loop-k
invariant-loop-k l = refusal (checks_from l.sheet 0 (transitions_of l.sheet)) ≡ refusal (checks_from l.sheet l.k (transitions_of l.sheet - l.k))
