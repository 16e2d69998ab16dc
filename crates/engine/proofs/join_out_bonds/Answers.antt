-- `engine::join_out_bonds`: the answers to the goals that the check leaves.
use Rattle.std.proofs.Common.{◌≡◌, ℕ, ◌-◌, sym, subst, drop, arith}
use Rattle.net.specs.Limits.{max_bases}
use Rattle.net.specs.Sorted.{puts}
use Rattle.net.specs.Net.{same_bond, less_bond}
use Rattle.format.specs.Arcs.{arcs_in, out_count, nth_out_bond}
use Rattle.labels.specs.Labelled.{Labelled, Within}
use Rattle.engine.proofs.Labels.{joins-none, joins-turn}
use Rattle.engine.proofs.join_out_bonds.Goals as goal

pub loop-i-init : goal.loop-i-init
loop-i-init c = (
  c.requires.0,
  joins-none (out_count c.args.step.now) (nth_out_bond c.args.step.now) c.out_count-i.result c.out_count-i.ensures c.args.labels.now.of c.args.labels.now.members,
)

pub join-requires : goal.join-requires
join-requires c = (c.loop-i.invariant.0, subst (Within max_bases) (sym c.out_bond.ensures) (c.requires.1 (c.loop-i.i - 1) (omega arith)))

pub loop-i-preserved : goal.loop-i-preserved
loop-i-preserved c = (
  c.join.ensures.fits,
  joins-turn (out_count c.args.step.now) (nth_out_bond c.args.step.now) c.loop-i.i c.out_bond.result c.args.labels.now.of
      c.args.labels.now.members c.loop-i.labels.of c.loop-i.labels.members _ _ (omega arith) (omega arith) c.out_bond.ensures c.loop-i.invariant.1
      c.join.ensures.labelled,
)

pub returns : goal.returns
returns c =
    let e : c.loop-i.i ≡ 0 = omega arith in
    λ bs P. subst (λ (k : ℕ). Labelled c.loop-i.labels.of c.loop-i.labels.members (puts same_bond less_bond (drop k (arcs_in c.args.step.now).out_bonds) bs)) e
    (c.loop-i.invariant.1 bs P)
