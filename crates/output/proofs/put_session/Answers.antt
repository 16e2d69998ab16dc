-- `output::put_session`: the answers to the goals that the check leaves.
use borrow.Author.Rules.{rules}
use native.Mathlib.Omega.{arith}
use Prim.Native.Nat.{◌≤◌}
use Rattle.sheet.proofs.Accepted.{promised}
use Rattle.command_list.specs.Commands.{how_many}
use Rattle.report.specs.Said.{max_commands}
use Rattle.output.proofs.Sessions.{Ran, starts-sound, values_low, live-low, bonds-low, session-pieces}
use Rattle.output.proofs.put_session.Goals as goal

pub run-ran-requires : goal.run-ran-requires
run-ran-requires c =
    let few : how_many c.args.commands.now ≤ max_commands = omega arith in
    let words = c.word_room-words.ensures in
    let values = c.value_room-values.ensures in
    (starts-sound c.args.sheet.now c.args.r c.requires.2 c.requires.3, omega arith, omega arith)

pub put_answers-at-requires : goal.put_answers-at-requires
put_answers-at-requires c =
    let b = c.args.commands.now in
    let few : how_many b ≤ max_commands = omega arith in
    let done = c.run-ran in
    let words = c.word_room-words.ensures in
    let values = c.value_room-values.ensures in
    let given : Ran c.args.sheet.now b c.args.r c.word_room-words.result c.value_room-values.result done.result.session done.result.tally _ _ = record {
      accepted = c.requires.2;
      fresh = c.requires.3;
      room = omega arith;
      space = omega arith;
      gives = done.ensures;
    } in
    rw c.how_many.ensures (omega arith, few, search rules, search rules, values_low _ b _ _ _ _ _ _ _ given)

pub put_closing-requires : goal.put_closing-requires
put_closing-requires c =
    let b = c.args.commands.now in
    let few : how_many b ≤ max_commands = omega arith in
    let done = c.run-ran in
    let words = c.word_room-words.ensures in
    let values = c.value_room-values.ensures in
    let given : Ran c.args.sheet.now b c.args.r c.word_room-words.result c.value_room-values.result done.result.session done.result.tally _ _ = record {
      accepted = c.requires.2;
      fresh = c.requires.3;
      room = omega arith;
      space = omega arith;
      gives = done.ensures;
    } in
    let bases = c.base_count.ensures in
    let least = (promised c.args.sheet.now c.requires.2).bases.1 in
    (omega (arith, c.put_answers-at.ensures.upper_bound, few, c.how_many.ensures), omega (arith, bases, least), bonds-low _ b _ _ _ _ _ _ _ given, live-low _ b _ _ _ _ _ _ _ given)

pub returns : goal.returns
returns c =
    let b = c.args.commands.now in
    let few : how_many b ≤ max_commands = omega arith in
    let done = c.run-ran in
    let words = c.word_room-words.ensures in
    let values = c.value_room-values.ensures in
    let given : Ran c.args.sheet.now b c.args.r c.word_room-words.result c.value_room-values.result done.result.session done.result.tally _ _ = record {
      accepted = c.requires.2;
      fresh = c.requires.3;
      room = omega arith;
      space = omega arith;
      gives = done.ensures;
    } in
    let lines = c.put_answers-at.ensures in
    let filled = rw c.how_many.ensures at lines.filled in
    let closing = c.put_closing.ensures in
    record {
      filled = session-pieces _ b _ _ _ _ _ _ _ given c.args.buf.now _ c.base_count.ensures filled closing.wrote;
      upper_bound = omega (arith, lines.upper_bound, closing.upper_bound, few, c.how_many.ensures);
    }
