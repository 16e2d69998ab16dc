-- `session::Record::answer`: the answers to the goals that the check leaves.
use mathlib.Core.Path.{◌∙◌}
use Rattle.session.proofs.Answering.{refused-by}
use Rattle.session.proofs.Stays.{performs}
use Rattle.session.proofs.Record.answer.Goals as goal

pub returns-then-refusal-ne0 : goal.returns-then-refusal-ne0
returns-then-refusal-ne0 c = c.refused.ensures ∙ refused-by c.args.sheet.now c.args.self c.args.bytes.now _ c.refusal_on-refusal.ensures.value c.if-refusal-ne0.true

pub perform-requires : goal.perform-requires
perform-requires c = c.refusal_on-refusal.ensures.sound c.if-refusal-ne0.false

pub returns : goal.returns
returns c = c.perform.ensures ∙ performs c.args.sheet.now c.args.self (c.refusal_on-refusal.ensures.sound c.if-refusal-ne0.false) c.args.bytes.now
