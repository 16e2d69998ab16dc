-- `labels::root`: the answers to the goals that the check leaves.
use mathlib.Core.Path.{refl, ap, ◌∙◌}
use native.Mathlib.Omega.{arith}
use borrow.Author.Rules.{rules}
use Rattle.labels.proofs.root.Goals as goal

pub loop-up-init : goal.loop-up-init
loop-up-init c = (search rules, search rules, refl, λ f F. refl)

pub loop-up-preserved : goal.loop-up-preserved
loop-up-preserved c = (omega arith, omega arith, refl, λ f F. ap f c.loop-up.invariant.2 ∙ F.up c.loop-up.x (omega arith) ∙ c.loop-up.invariant.3 f F)

pub returns : goal.returns
returns c =
    let d = c.requires.1 c.loop-up.x (omega arith) in
    let u = c.loop-up.invariant.2 in
    (c.loop-up.invariant.0, omega arith, c.loop-up.invariant.3)
