-- `page_lines::put_row`: the answers to the goals that the check leaves.
use native.Mathlib.Omega.{arith}
use Rattle.page_lines.proofs.Lines.{fits-3, fits-4, fits-5, row-pieces}
use Rattle.page_lines.specs.Page.{row}
use Rattle.page_lines.proofs.put_row.Goals as goal

pub put_right-a-requires : goal.put_right-a-requires
put_right-a-requires c = (omega arith, omega (arith, fits-5 c.args.key (omega arith)))

pub put_right-c-requires : goal.put_right-c-requires
put_right-c-requires c = (omega (arith, c.put_right-a.ensures.1), omega (arith, fits-3 c.args.step (omega arith)))

pub put_right-e-requires : goal.put_right-e-requires
put_right-e-requires c = (omega (arith, c.put_right-c.ensures.1, c.put_right-a.ensures.1), omega (arith, fits-4 c.args.moved (omega arith)))

pub returns : goal.returns
returns c = (
  row-pieces c.args.buf.now c.args.at (row c.args.key c.args.step c.args.moved)
      c.put_right-a.ensures.0 c.put_word-b.ensures c.put_right-c.ensures.0 c.put_word-d.ensures c.put_right-e.ensures.0 c.put_rest.ensures.0,
  c.put_rest.ensures.1,
)
