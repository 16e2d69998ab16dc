-- `lexing::number_at`: the answers to the goals that the check leaves.
use Rattle.lexing.proofs.Scans.{number-stands, number-joins}
use Rattle.std.proofs.Common.{sym, ◌∙◌}
use Rattle.lexing.proofs.number_at.Goals as goal

pub returns-then-ends_at : goal.returns-then-ends_at
returns-then-ends_at c = number-stands c.args.text.now c.args.from _ c.end_of-to.ensures _ c.value_of.ensures (sym c.ends_at.ensures ∙ c.if-ends_at.true)

pub returns-then-joins_at : goal.returns-then-joins_at
returns-then-joins_at c = number-joins c.args.text.now c.args.from _ c.end_of-to.ensures _ c.value_of.ensures (sym c.ends_at.ensures ∙ c.if-ends_at.false) (sym c.joins_at.ensures ∙ c.if-joins_at.true)
