-- `sheet_print::put_step`: the answers to the goals that the check leaves.
use native.Mathlib.Omega.{arith}
use Rattle.text.specs.Ascii.{ascii}
use Rattle.sheet_print.proofs.Lines.{one-length}
use Rattle.sheet_print.proofs.Steps.{wrote-step, arcs-fit}
use Rattle.sheet_print.proofs.put_step.Goals as goal

pub put_arcs-requires : goal.put_arcs-requires
put_arcs-requires c = omega (arith, one-length (ascii "step ") c.args.k, arcs-fit _ _ c.transition_bytes-bytes.ensures)

pub returns : goal.returns
returns c = wrote-step c.args.buf.now c.args.at c.args.sheet.now c.args.k _ c.transition_bytes-bytes.ensures c.put_one-a.ensures c.put_arcs.ensures
