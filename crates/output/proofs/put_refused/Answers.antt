-- `output::put_refused`: the answers to the goals that the check leaves.
use native.Mathlib.Omega.{arith}
use Rattle.text.proofs.Digits.{digits-length}
use Rattle.output.proofs.Answers.{refused-pieces}
use Rattle.output.proofs.put_refused.Goals as goal

pub put_word-requires : goal.put_word-requires
put_word-requires c = omega (arith, digits-length 10 c.args.n)

pub returns : goal.returns
returns c =
    let done = refused-pieces c.args.buf.now c.args.n c.put_word-a.ensures c.put_digits-b.ensures c.put_word.ensures in
    record {
      filled = done;
      upper_bound = omega (arith, c.put_word-a.ensures.0, c.put_digits-b.ensures.0, c.put_word.ensures.0, digits-length 10 c.args.n);
    }
