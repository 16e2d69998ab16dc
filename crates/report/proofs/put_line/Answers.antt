-- `report::put_line`: the answers to the goals that the check leaves.
use Rattle.text.proofs.Digits.{digits-length}
use Rattle.report.proofs.Pieces.{room, below-limit, pieces}
use Rattle.report.proofs.Whole.{words-fit}
use native.Mathlib.Omega.{arith}
use Prim.Native.Nat.{◌<◌}
use borrow.Author.Rules.{rules}
use Rattle.report.proofs.put_line.Goals as goal

pub put_answer-b-requires : goal.put_answer-b-requires
put_answer-b-requires c = omega (arith, digits-length 10 c.args.number)

pub put_digits-e-requires : goal.put_digits-e-requires
put_digits-e-requires c =
    let small : c.args.value < 65536 = search rules in
    omega (arith, digits-length 10 c.args.number, (room c.args.word c.args.value (below-limit c.args.word c.args.value small c.requires.1)).0)

pub put_word-requires : goal.put_word-requires
put_word-requires c =
    let small : c.args.value < 65536 = search rules in
    omega (arith, digits-length 10 c.args.number, (room c.args.word c.args.value (below-limit c.args.word c.args.value small c.requires.1)).2)

pub returns : goal.returns
returns c =
    let small : c.args.value < 65536 = search rules in
    let low = below-limit c.args.word c.args.value small c.requires.1 in
    let all = pieces c.args.buf.now c.args.at c.args.number c.args.word c.args.value (room c.args.word c.args.value low).1 c.put_digits-a.ensures c.put_answer-b.ensures c.put_digits-e.ensures c.put_word.ensures in
    record {
      wrote = all;
      upper_bound = omega (arith, all.0, words-fit c.args.number c.args.word c.args.value low);
    }
