-- `closing::put_row`: the answers to the goals that the check leaves.
use native.Mathlib.Omega.{arith}
use Rattle.closing.proofs.Lines.{row-pieces, items-length}
use Rattle.closing.proofs.put_row.Goals as goal

pub put_word-requires : goal.put_word-requires
put_word-requires c = omega (arith, items-length c.args.ns.now)

pub returns : goal.returns
returns c = row-pieces c.args.buf.now c.args.at c.args.word.now c.args.ns.now c.put_word-a.ensures c.put_items-b.ensures c.put_word.ensures
