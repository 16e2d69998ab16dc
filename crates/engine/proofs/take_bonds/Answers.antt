-- `engine::take_bonds`: the answers to the goals that the check leaves.
use Rattle.std.proofs.Common.{◌≡◌, ◌∙◌, not, arith}
use Rattle.format.specs.Sides.{bond_count, nth_bond, side_bonds}
use Rattle.engine.proofs.Removing.{left-all, take-asks, take_gives}
use Rattle.engine.proofs.take_bonds.Goals as goal

pub loop-i-init : goal.loop-i-init
loop-i-init c = left-all (side_bonds c.args.step.now (not c.args.out)) c.args.m.now c.requires (nth_bond c.args.step.now c.args.out)

pub take_out-requires : goal.take_out-requires
take_out-requires c = take-asks (side_bonds c.args.step.now (not c.args.out)) c.args.m.now c.requires (nth_bond c.args.step.now c.args.out) c.loop-i.i _ c.loop-i.invariant

pub loop-i-preserved : goal.loop-i-preserved
loop-i-preserved c =
    take_gives (side_bonds c.args.step.now (not c.args.out)) c.args.m.now c.requires (nth_bond c.args.step.now c.args.out) c.loop-i.i _
    c.loop-i.invariant _ c.nth_bond.ensures _ c.take_out.ensures

pub returns : goal.returns
returns c = let e : c.loop-i.i ≡ bond_count c.args.step.now c.args.out = omega arith in c.loop-i.invariant ∙ rw e
