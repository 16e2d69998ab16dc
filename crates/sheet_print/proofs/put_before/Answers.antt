-- `sheet_print::put_before`: the answers to the goals that the check leaves.
use Rattle.text.specs.Ascii.{ascii}
use Rattle.sheet_print.proofs.Lines.{before-row, wrote-bond}
use Rattle.sheet_text.specs.declared.Line.TheVariants.{Before}
use Rattle.sheet_print.proofs.put_before.Goals as goal

pub returns : goal.returns
returns c = wrote-bond c.args.buf.now c.args.at (ascii "before ") Before before-row c.in_bond.result _ c.in_bond.ensures c.put_bond.ensures
