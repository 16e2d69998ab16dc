-- `bonds::rank`: the answers to the goals that the check leaves.
use mathlib.Core.Path.{sym, ◌∙◌}
use Prim.Native.Nat.{ℕ, ◌+◌, ◌/◌}
use native.Mathlib.Omega.{arith}
use Rattle.net.specs.declared.Bond.{Bond}
use Rattle.net.specs.Net.{same_bond, less_bond}
use Rattle.net.proofs.Bonds.{bond-order}
use Rattle.bonds.specs.Ends.{ends}
use Rattle.bonds.proofs.Halves.{first-pass, below, not-below}
use Rattle.bonds.proofs.rank.Goals as goal

pub loop-n-init : goal.loop-n-init
loop-n-init c = (omega arith, λ i h. absurd (let z : ⊥ = omega arith in z), λ i h k. absurd (let z : ⊥ = omega arith in z))

pub loop-n-preserved-then-is_less : goal.loop-n-preserved-then-is_less
loop-n-preserved-then-is_less c =
    let f : ℕ → Bond = ends c.args.lo.now c.args.hi.now in
    let m : ℕ = c.loop-n.from + c.loop-n.n / 2 in
    (omega arith, below same_bond less_bond bond-order c.args.count f c.requires.2 c.args.b m (omega arith) (sym c.is_less.ensures ∙ c.if-is_less.true), λ i h k. c.loop-n.invariant.2 i (omega arith) k)

pub loop-n-preserved : goal.loop-n-preserved
loop-n-preserved c =
    let f : ℕ → Bond = ends c.args.lo.now c.args.hi.now in
    let m : ℕ = c.loop-n.from + c.loop-n.n / 2 in
    (omega arith, c.loop-n.invariant.1, λ i h k. not-below same_bond less_bond bond-order c.args.count f c.requires.2 c.args.b m (sym c.is_less.ensures ∙ c.if-is_less.false) i h k)

pub returns : goal.returns
returns c = sym (first-pass (λ (x : Bond). less_bond x c.args.b) c.args.count c.loop-n.from (ends c.args.lo.now c.args.hi.now) (omega arith) c.loop-n.invariant.1 (λ i h k. c.loop-n.invariant.2 i (omega arith) k))
