-- `undoing::undo_at`: the answers to the goals that the check leaves.
use Rattle.std.proofs.Common.{arith}
use Rattle.sound.proofs.Holds.{placed, live-few}
use Rattle.undoing.proofs.Backs.{listed, taken_back}
use Rattle.undoing.proofs.undo_at.Goals as goal

pub firing_at-one-requires : goal.firing_at-one-requires
firing_at-one-requires c =
    let h = c.requires.labelled.1 in
    let k = live-few c.args.sheet.now c.args.m.now c.args.f.now c.requires.passed.0 c.requires.passed.1 in
    omega arith

pub undo_in-requires : goal.undo_in-requires
undo_in-requires c = (
  placed c.args.sheet.now c.args.m.now c.args.f.now c.requires.passed.0 c.requires.passed.1,
  c.requires.labelled.0,
  rw (c.transition_of.ensures, c.firing_at-one.ensures) (listed c.args.sheet.now c.args.m.now c.args.f.now c.requires.passed.0 c.requires.passed.1 _ c.requires.labelled.1),
)

pub close_up-requires : goal.close_up-requires
close_up-requires c = (c.requires.labelled.1, live-few c.args.sheet.now c.args.m.now c.args.f.now c.requires.passed.0 c.requires.passed.1)

pub returns : goal.returns
returns c =
    let back = rw (c.transition_of.ensures, c.firing_at-one.ensures) at c.undo_in.ensures.undone in
    record {
      undone_at = taken_back c.args.sheet.now c.args.m.now c.args.f.now c.requires.passed.0 c.requires.passed.1 _ c.requires.labelled.1 _ _ back c.close_up.ensures;
      labelled_2 = c.undo_in.ensures.labelled;
    }
