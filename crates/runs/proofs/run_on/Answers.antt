-- `runs::run_on`: the answers to the goals that the check leaves.
use Rattle.std.proofs.Common.{◌≡◌, refl, arith}
use Rattle.std.proofs.lemmas.List.{length-set}
use Rattle.replaying.proofs.Lines.{placed-room, placed-ends}
use Rattle.sound.proofs.Holds.{placed}
use Rattle.command_list.specs.Commands.{how_many}
use Rattle.runs.proofs.Turns.{upto-none, upto-kept, upto-more, upto_all}
use Rattle.runs.proofs.run_on.Goals as goal

pub of_marking-labels-requires : goal.of_marking-labels-requires
of_marking-labels-requires c =
    let h = c.args.before in
    let P = placed c.args.sheet.now h.marking h.firings h.given c.requires.0.passed in
    record { count_in_bounds = placed-room c.args.sheet.now h.marking P; by_index = placed-ends c.args.sheet.now h.marking P }

pub loop-i-init : goal.loop-i-init
loop-i-init c = (refl, refl, c.of_marking-labels.ensures, upto-none c.args.sheet.now c.args.before c.requires.0 c.args.commands.now c.args.t c.args.words.now c.args.values.now)

pub step_in-done-requires : goal.step_in-done-requires
step_in-done-requires c = (upto-kept c.args.sheet.now c.args.before c.requires.0 c.args.commands.now c.args.t c.args.words.now c.args.values.now c.loop-i.i c.loop-i.held c.loop-i.counts c.loop-i.words c.loop-i.values c.loop-i.invariant.3, c.loop-i.invariant.2)

pub loop-i-preserved : goal.loop-i-preserved
loop-i-preserved c = (
  simp length-set c.loop-i.invariant.0,
  simp length-set c.loop-i.invariant.1,
  c.step_in-done.ensures.labelled,
  upto-more c.args.sheet.now c.args.before c.requires.0 c.args.commands.now c.args.t c.args.words.now c.args.values.now c.loop-i.i c.loop-i.held c.loop-i.counts c.loop-i.words c.loop-i.values c.loop-i.invariant.3 c.command_at-bytes.result.now c.command_at-bytes.ensures c.step_in-done.result c.step_in-done.new.held c.step_in-done.ensures.step_did,
)

pub returns : goal.returns
returns c =
    let all : c.loop-i.i ≡ how_many c.args.commands.now = omega arith in
    upto_all c.args.sheet.now c.args.before c.requires.0 c.args.commands.now c.args.t c.args.words.now c.args.values.now c.loop-i.i c.loop-i.held c.loop-i.counts c.loop-i.words c.loop-i.values all c.loop-i.invariant.3
