-- `runs::perform_on`: the answers to the goals that the check leaves.
use Rattle.replaying.proofs.Lines.{placed-room, placed-ends}
use Rattle.sound.proofs.Holds.{placed}
use Rattle.runs.proofs.Turns.{performed}
use Rattle.runs.proofs.perform_on.Goals as goal

pub of_marking-labels-requires : goal.of_marking-labels-requires
of_marking-labels-requires c =
    let h = c.args.before in
    let P = placed c.args.sheet.now h.marking h.firings h.given c.requires.passed in
    record { count_in_bounds = placed-room c.args.sheet.now h.marking P; by_index = placed-ends c.args.sheet.now h.marking P }

pub perform_in-done-requires : goal.perform_in-done-requires
perform_in-done-requires c = (c.requires, c.of_marking-labels.ensures)

pub returns : goal.returns
returns c = performed _ c.perform_in-done.result c.perform_in-done.new.m c.perform_in-done.new.f c.perform_in-done.new.movers c.perform_in-done.ensures.did
