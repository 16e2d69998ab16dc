-- `why::why_absent`: the answers to the goals that the check leaves.
-- the function's start
use Rattle.why.proofs.Items.{bonds-ready, absent-is}
use Rattle.why.proofs.why_absent.Goals as goal

pub first_absent-i-requires : goal.first_absent-i-requires
first_absent-i-requires c = bonds-ready c.args.sheet.now c.args.r c.args.bytes.now c.requires.sound

pub returns : goal.returns
returns c = absent-is c.args.sheet.now c.args.r c.args.bytes.now c.requires.sound c.step_named-step.result.now c.step_named-step.ensures c.requires c.first_absent-i.result c.first_absent-i.ensures c.in_bond.result c.in_bond.ensures
