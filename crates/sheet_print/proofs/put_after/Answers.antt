-- `sheet_print::put_after`: the answers to the goals that the check leaves.
use Rattle.text.specs.Ascii.{ascii}
use Rattle.sheet_print.proofs.Lines.{after-row, wrote-bond}
use Rattle.sheet_text.specs.declared.Line.TheVariants.{After}
use Rattle.sheet_print.proofs.put_after.Goals as goal

pub returns : goal.returns
returns c = wrote-bond c.args.buf.now c.args.at (ascii "after ") After after-row c.out_bond.result _ c.out_bond.ensures c.put_bond.ensures
