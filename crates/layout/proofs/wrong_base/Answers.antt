-- `layout::wrong_base`: the answers to the goals that the check leaves.
use native.Mathlib.Omega.{arith}
use mathlib.Core.Path.{◌≡◌, refl, sym, ◌∙◌}
use Rattle.net.proofs.Tables.{any-more}
use Rattle.net.proofs.Firsts.{first-here, first-none}
use Rattle.layout.specs.Layout.{astray}
use Rattle.layout.proofs.wrong_base.Goals as goal

pub loop-p-init : goal.loop-p-init
loop-p-init c = refl

pub returns-then-is_elsewhere : goal.returns-then-is_elsewhere
returns-then-is_elsewhere c = first-here (astray c.args.layout.now c.args.places.now) c.args.n c.loop-p.p (λ k. k) c.loop-p.invariant (omega arith) _ refl (sym c.is_elsewhere.ensures ∙ c.if-is_elsewhere.true)

pub loop-p-preserved : goal.loop-p-preserved
loop-p-preserved c = (any-more (astray c.args.layout.now c.args.places.now) c.loop-p.p (λ k. k) ∙ rw c.loop-p.invariant (sym c.is_elsewhere.ensures ∙ c.if-is_elsewhere.false))

pub returns : goal.returns
returns c =
    let e : c.loop-p.p ≡ c.args.n = omega arith in
    first-none (astray c.args.layout.now c.args.places.now) c.args.n c.loop-p.p (λ k. k) e c.loop-p.invariant
