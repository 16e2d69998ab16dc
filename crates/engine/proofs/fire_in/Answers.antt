-- `engine::fire_in`: the answers to the goals that the check leaves.
use Rattle.net.specs.Firing.{broken_bond}
use Rattle.net.proofs.Written.{has_right}
use Rattle.format.specs.Arcs.{arcs_in}
use Rattle.enabling.proofs.Readiness.{in_order, entries-low}
use Rattle.engine.proofs.Arrays.{side-room, fired-fits, fired-end}
use Rattle.engine.proofs.fire_in.Goals as goal

pub take_broken-requires : goal.take_broken-requires
take_broken-requires c = (in_order c.args.n (arcs_in c.args.step.now) c.args.m.now c.requires.0, c.breaks_none-whole.ensures)

pub put_bonds-requires : goal.put_bonds-requires
put_bonds-requires c =
    let t = arcs_in c.args.step.now in
    side-room c.args.n c.args.step.now c.args.m.now c.requires.0 (broken_bond t) _ c.take_broken.ensures t.out_bonds (has_right t.in_bonds t.out_bonds)

pub label_fired-requires : goal.label_fired-requires
label_fired-requires c =
    let both = fired-fits c.args.n c.args.step.now c.args.m.now c.requires.0 _ _ c.take_broken.ensures c.put_bonds.ensures c.args.labels.now.of c.args.labels.now.members c.requires.1 in
    record { fits = both.0; by_index = both.1.0; by_index_2 = both.1.1 }

pub send_entries-requires : goal.send_entries-requires
send_entries-requires c = entries-low c.args.n c.args.step.now c.args.m.now c.requires.0

-- the lists that the calls left are given, since antt is slow to find them
pub returns : goal.returns
returns c =
    let both = fired-end c.args.n c.args.step.now c.args.m.now c.requires.0 _ _ c.take_broken.ensures c.put_bonds.ensures c.args.labels.now.of c.args.labels.now.members
    c.label_fired.new.labels.of c.label_fired.new.labels.members c.send_entries.new.places c.requires.1 c.label_fired.ensures c.send_entries.ensures in
    record { fired = both.0; labelled = both.1 }
