-- `text::put_digits`: the answers to the goals that the check leaves.
use Rattle.text.proofs.Loops.{left-fewer}
use Rattle.text.proofs.put_digits.Goals as goal

pub loop-j-preserved : goal.loop-j-preserved
loop-j-preserved c = left-fewer c.loop-j-test.true c.loop-j.invariant
