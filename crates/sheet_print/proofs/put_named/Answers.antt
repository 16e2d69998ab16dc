-- `sheet_print::put_named`: the answers to the goals that the check leaves.
use Rattle.sheet_print.proofs.Lines.{wrote-named}
use Rattle.sheet_print.proofs.put_named.Goals as goal

pub returns : goal.returns
returns c = wrote-named c.args.buf.now c.args.at c.args.word.now c.args.n c.put_word-a.ensures c.put_digits.ensures
