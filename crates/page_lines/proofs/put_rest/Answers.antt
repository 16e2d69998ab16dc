-- `page_lines::put_rest`: the answers to the goals that the check leaves.
use native.Mathlib.Omega.{arith}
use Prim.Native.Nat.{◌+◌, ◌-◌}
use Rattle.page_lines.proofs.Lines.{blanks-length, rest-ends, rest-pieces}
use Rattle.page_lines.proofs.put_rest.Goals as goal

pub put_word-requires : goal.put_word-requires
put_word-requires c = omega (arith, blanks-length (c.args.from + 40 - c.args.at))

pub returns : goal.returns
returns c =
    let w = rest-pieces c.args.buf.now c.args.at (c.args.from + 40 - c.args.at) c.put_blanks-a.ensures c.put_word.ensures in
    (w, rest-ends c.args.at c.args.from c.requires.0 c.requires.1 w.0)
