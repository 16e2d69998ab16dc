-- `engine::put_bonds`: the answers to the goals that the check leaves.
use Rattle.std.proofs.Common.{arith}
use Rattle.format.specs.Arcs.{arcs_in}
use Rattle.format.specs.Sides.{bond_count, nth_bond}
use Rattle.engine.specs.Change.{goes_in}
use Rattle.engine.proofs.Adding.{held_none, held_all, add-asks, add-gives}
use Rattle.engine.proofs.put_bonds.Goals as goal

pub loop-i-init : goal.loop-i-init
loop-i-init c =
    held_none c.args.m.now c.requires.order (bond_count c.args.step.now c.args.out) (nth_bond c.args.step.now c.args.out) c.requires.room (goes_in (arcs_in c.args.step.now) c.args.out) c.bond_count-i.result c.bond_count-i.ensures

pub put_in-requires : goal.put_in-requires
put_in-requires c =
    let both = add-asks c.args.m.now c.requires.order (bond_count c.args.step.now c.args.out) (nth_bond c.args.step.now c.args.out) c.requires.room (goes_in (arcs_in c.args.step.now) c.args.out) c.loop-i.i
    (omega arith) (omega arith) _ c.loop-i.invariant _ c.nth_bond.ensures in record { in_order = both.0; count_len_bound = both.1 }

pub loop-i-preserved : goal.loop-i-preserved
loop-i-preserved c =
    add-gives c.args.m.now c.requires.order (bond_count c.args.step.now c.args.out) (nth_bond c.args.step.now c.args.out) c.requires.room (goes_in (arcs_in c.args.step.now) c.args.out)
    c.loop-i.i (omega arith) (omega arith) _ c.loop-i.invariant _ c.nth_bond.ensures _ c.put_in.ensures

pub returns : goal.returns
returns c =
    held_all c.args.m.now c.requires.order (bond_count c.args.step.now c.args.out) (nth_bond c.args.step.now c.args.out) c.requires.room (goes_in (arcs_in c.args.step.now) c.args.out) c.loop-i.i
    _ (omega arith) c.loop-i.invariant
