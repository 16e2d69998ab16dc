-- `sheet_print::put_move`: the answers to the goals that the check leaves.
use Rattle.sheet_print.proofs.Lines.{wrote-move}
use Rattle.sheet_print.proofs.put_move.Goals as goal

pub returns : goal.returns
returns c = wrote-move c.args.buf.now c.args.at c.entry.result _ c.entry.ensures c.put_entry.ensures
