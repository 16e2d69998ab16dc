-- `page_lines::put_page`: the answers to the goals that the check leaves.
use Rattle.page_lines.proofs.Lines.{page-pieces}
use Rattle.page_lines.specs.Page.{page_lines, rows_in}
use Rattle.text.specs.Joined.{joined}
use Rattle.page_lines.proofs.put_page.Goals as goal

pub returns : goal.returns
returns c =
    page-pieces c.args.buf.now (joined (page_lines (rows_in c.args.keys.now c.args.steps.now c.args.moved.now c.args.n) c.args.number)) c.args.number
    c.put_lines-a.ensures.0 c.put_last.ensures
