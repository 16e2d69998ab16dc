-- `page_lines::put_line_at`: the answers to the goals that the check leaves.
use Rattle.page_lines.proofs.Lines.{blank-pieces, line_of, line-past}
use Rattle.page_lines.proofs.put_line_at.Goals as goal

pub returns-then-i-n : goal.returns-then-i-n
returns-then-i-n c =
    let e = line_of c.args.keys.now c.args.steps.now c.args.moved.now c.args.n c.args.i c.if-i-n.true in
    (rw e c.put_row.ensures.0, c.put_row.ensures.1)

pub returns-else-i-n : goal.returns-else-i-n
returns-else-i-n c =
    let e = line-past c.args.keys.now c.args.steps.now c.args.moved.now c.args.n c.args.i c.if-i-n.false in
    (rw e (blank-pieces c.args.buf.now c.args.at c.put_rest.ensures.0), c.put_rest.ensures.1)
