-- `sheet_print::put_coupled`: the answers to the goals that the check leaves.
use Rattle.text.specs.Ascii.{ascii}
use Rattle.sheet_print.proofs.Lines.{coupled-row, wrote-bond}
use Rattle.sheet_text.specs.declared.Line.TheVariants.{Coupled}
use Rattle.sheet_print.proofs.put_coupled.Goals as goal

pub returns : goal.returns
returns c = wrote-bond c.args.buf.now c.args.at (ascii "coupled ") Coupled coupled-row c.start_bond.result _ c.start_bond.ensures c.put_bond.ensures
