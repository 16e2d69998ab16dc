-- `session::Record::refusal_on`: the answers to the goals that the check leaves.
use Rattle.session.proofs.Record.refusal_on.Goals as goal

pub returns : goal.returns
returns c = let both = c.record_refusal.ensures in record { value = both.value; sound = both.kept }
