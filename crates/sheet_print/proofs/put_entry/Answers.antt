-- `sheet_print::put_entry`: the answers to the goals that the check leaves.
use native.Mathlib.Omega.{arith}
use Rattle.text.specs.Ascii.{ascii}
use Rattle.sheet_print.proofs.Lines.{named-length, wrote-entry}
use Rattle.sheet_print.proofs.put_entry.Goals as goal

pub put_two-requires : goal.put_two-requires
put_two-requires c = omega (arith, named-length (ascii "move ") c.args.e.base)

pub returns : goal.returns
returns c = wrote-entry c.args.buf.now c.args.at c.args.e.base c.args.e.from c.args.e.to c.put_named-a.ensures c.put_two.ensures
