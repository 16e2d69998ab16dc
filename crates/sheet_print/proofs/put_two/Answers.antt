-- `sheet_print::put_two`: the answers to the goals that the check leaves.
use native.Mathlib.Omega.{arith}
use Rattle.sheet_print.specs.Pieces.{named, one}
use Rattle.sheet_print.proofs.Lines.{wrote-both, named-length}
use Rattle.sheet_print.proofs.put_two.Goals as goal

pub put_one-requires : goal.put_one-requires
put_one-requires c = omega (arith, named-length c.args.word.now c.args.n)

pub returns : goal.returns
returns c = wrote-both c.args.buf.now c.args.at (named c.args.word.now c.args.n) (one c.args.next.now c.args.m) c.put_named-a.ensures c.put_one.ensures
