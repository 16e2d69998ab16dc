-- `lexing::word_at`: the answers to the goals that the check leaves.
use Rattle.lexing.proofs.Scans.{word_stands}
use Rattle.std.proofs.Common.{sym, ◌∙◌}
use Rattle.lexing.proofs.word_at.Goals as goal

pub returns-then-ends_at : goal.returns-then-ends_at
returns-then-ends_at c = word_stands c.args.text.now c.args.from _ c.end_of-to.ensures (sym c.ends_at.ensures ∙ c.if-ends_at.true)
