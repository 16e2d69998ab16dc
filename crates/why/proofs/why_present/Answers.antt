-- `why::why_present`: the answers to the goals that the check leaves.
-- the function's start
use Rattle.why.proofs.Items.{bonds-ready, present-is}
use Rattle.why.proofs.why_present.Goals as goal

pub first_present-i-requires : goal.first_present-i-requires
first_present-i-requires c = bonds-ready c.args.sheet.now c.args.r c.args.bytes.now c.requires.sound

pub returns : goal.returns
returns c = present-is c.args.sheet.now c.args.r c.args.bytes.now c.requires.sound c.step_named-step.result.now c.step_named-step.ensures c.requires c.first_present-i.result c.first_present-i.ensures c.out_bond.result c.out_bond.ensures
