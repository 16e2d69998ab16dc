-- `words::common_bases`: the answers to the goals that the check leaves.
use Rattle.words.proofs.Bits.{meet-of}
use Rattle.net.specs.Limits.{max_bases}
use Rattle.words.proofs.common_bases.Goals as goal

pub returns : goal.returns
returns c = meet-of max_bases c.args.a c.args.b
