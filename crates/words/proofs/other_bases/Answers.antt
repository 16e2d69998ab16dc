-- `words::other_bases`: the answers to the goals that the check leaves.
use Rattle.words.proofs.Bits.{minus-of}
use Rattle.net.specs.Limits.{max_bases}
use Rattle.words.proofs.other_bases.Goals as goal

pub returns : goal.returns
returns c = minus-of max_bases c.args.a c.args.b
