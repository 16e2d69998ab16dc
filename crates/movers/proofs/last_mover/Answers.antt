-- `movers::last_mover`: the answers to the goals that the check leaves.
use native.Mathlib.Omega.{arith}
use mathlib.Core.Path.{◌≡◌, subst, sym, ◌∙◌}
use Prim.Native.Nat.{ℕ}
use Rattle.net.specs.Limits.{max_bases}
use Rattle.firings.proofs.Lines.{line_at}
use Rattle.movers.proofs.Tops.{Last, last_moves, last_stays, last-all}
use Rattle.movers.proofs.last_mover.Goals as goal
use Rattle.movers.proofs.last_mover.Goals.{then-has_base, else-has_base}

pub loop-i-preserved : goal.loop-i-preserved
loop-i-preserved c =
    let f = line_at max_bases c.args.f.now in
    elim c.if-has_base.branch [
      | then-has_base w ↦ rw w.last-is (last_moves c.args.p f c.loop-i.i (sym c.has_base.ensures ∙ w.if-has_base.true))
      | else-has_base w ↦ rw w.last-is (last_stays c.args.p f c.loop-i.i c.loop-i.last (sym c.has_base.ensures ∙ w.if-has_base.false) c.loop-i.invariant)
    ]

pub returns : goal.returns
returns c =
    let f = c.args.f.now in
    let e : c.loop-i.i ≡ f.live = omega arith in
    last-all c.args.p f.live (line_at max_bases f) c.loop-i.last (subst (λ (n : ℕ). Last c.args.p (line_at max_bases f) n c.loop-i.last) e c.loop-i.invariant)
