-- `layout::wrong_base`: what its loop keeps.
use mathlib.Core.Path.{◌≡◌}
use mathlib.Core.Bool.{false}
use Rattle.net.specs.Tests.{any, table}
use Rattle.layout.specs.Layout.{astray}
use Rattle.layout.proofs.wrong_base.Given as goal

abbrev pub invariant-loop-p : goal.invariant-loop-p
invariant-loop-p l = any (astray l.layout l.places) (table l.p (λ k. k)) ≡ false
