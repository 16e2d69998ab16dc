-- `page_lines::put_last`: the answers to the goals that the check leaves.
use Rattle.page_lines.proofs.Lines.{last-pieces}
use Rattle.page_lines.proofs.put_last.Goals as goal

pub returns : goal.returns
returns c = last-pieces c.args.buf.now c.args.at c.args.number c.put_word-a.ensures c.put_digits-b.ensures c.put_rest.ensures.0
