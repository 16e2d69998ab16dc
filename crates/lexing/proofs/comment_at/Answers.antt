-- `lexing::comment_at`: the answers to the goals that the check leaves.
use Rattle.lexing.proofs.Scans.{line-stands}
use Rattle.lexing.proofs.comment_at.Goals as goal

pub returns-then-stop-text : goal.returns-then-stop-text
returns-then-stop-text c = line-stands c.args.text.now c.args.from _ c.end_of-stop.ensures c.if-stop-text.true
