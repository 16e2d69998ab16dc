-- `engine::undo_in`: the answers to the goals that the check leaves.
use Rattle.net.specs.Firing.{new_bond}
use Rattle.net.proofs.Written.{has_left}
use Rattle.format.specs.Arcs.{arcs_in}
use Rattle.enabling.proofs.Readiness.{in_order, entries-low}
use Rattle.engine.proofs.Arrays.{side-room, undone-fits, undone-end}
use Rattle.engine.proofs.undo_in.Goals as goal

pub take_bonds-requires : goal.take_bonds-requires
take_bonds-requires c = in_order c.args.n (arcs_in c.args.step.now) c.args.m.now c.requires.0

pub put_broken-requires : goal.put_broken-requires
put_broken-requires c =
    let t = arcs_in c.args.step.now in
    (side-room c.args.n c.args.step.now c.args.m.now c.requires.0 (new_bond t) _ c.take_bonds.ensures t.in_bonds (has_left t.in_bonds t.out_bonds), c.breaks_none-whole.ensures)

pub relabel-requires : goal.relabel-requires
relabel-requires c =
    let w = c.breaks_none-whole in
    let both = undone-fits c.args.n c.args.step.now c.args.m.now c.requires.0 _ _ c.take_bonds.ensures c.put_broken.ensures c.args.labels.now.of c.args.labels.now.members c.requires.1 w.result w.ensures in
    record { count_in_bounds = both.0; by_index = both.1.0; labelled = both.1.1 }

pub send_back-requires : goal.send_back-requires
send_back-requires c =
    record {
      by_index = entries-low c.args.n c.args.step.now c.args.m.now c.requires.0;
      labelled = (_, c.relabel.ensures);
    }

-- the lists that the calls left are given, since antt is slow to find them
pub returns : goal.returns
returns c =
    record {
      undone = undone-end c.args.n c.args.step.now c.args.m.now c.requires.0 _ _ c.take_bonds.ensures c.put_broken.ensures c.relabel.new.labels.of c.relabel.new.labels.members c.send_back.new.places
          c.args.moved c.relabel.ensures c.send_back.ensures;
      labelled = c.relabel.ensures;
    }
