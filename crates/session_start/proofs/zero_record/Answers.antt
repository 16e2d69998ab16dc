-- `session_start::zero_record`: the answers to the goals that the check leaves.
use Rattle.session_start.proofs.Starting.{zeros}
use Rattle.session_start.proofs.zero_record.Goals as goal

pub returns : goal.returns
returns c = zeros _ c.no_firings.ensures
