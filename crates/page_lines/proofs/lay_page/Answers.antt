-- `page_lines::lay_page`: the answers to the goals that the check leaves.
use Rattle.page_lines.proofs.Answers.{laid-printed, laid-refused}
use Rattle.page_lines.specs.Page.{rows_in}
use Rattle.page_lines.proofs.lay_page.Goals as goal

pub returns-then-refusal-ne0 : goal.returns-then-refusal-ne0
returns-then-refusal-ne0 c =
    laid-refused (rows_in c.args.keys.now c.args.steps.now c.args.moved.now c.args.n) c.args.n c.args.number c.args.buf.now c.page_refusal-refusal.result
    c.page_refusal-refusal.ensures c.if-refusal-ne0.true

pub returns : goal.returns
returns c =
    laid-printed (rows_in c.args.keys.now c.args.steps.now c.args.moved.now c.args.n) c.args.n c.args.number c.args.buf.now _ c.page_refusal-refusal.result
    c.page_refusal-refusal.ensures c.if-refusal-ne0.false c.put_page.ensures.1
