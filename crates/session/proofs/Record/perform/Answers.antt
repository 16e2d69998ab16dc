-- `session::Record::perform`: the answers to the goals that the check leaves.
use mathlib.Core.Path.{◌∙◌}
use Rattle.session.proofs.Stays.{did-performs}
use Rattle.session.proofs.Record.perform.Goals as goal

pub returns : goal.returns
returns c =
    (λ i. record { answer = c.perform_on-done.result.answer; key = c.perform_on-done.result.key; session = c.record_with.ensures i })
    ∙ did-performs c.args.sheet.now c.args.self c.requires c.args.bytes.now c.perform_on-done.result (rw c.held.ensures at c.perform_on-done.ensures)
