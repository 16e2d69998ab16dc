-- `words::union`: the answers to the goals that the check leaves.
use Rattle.words.proofs.Bits.{union-of}
use Rattle.net.specs.Limits.{max_bases}
use Rattle.words.proofs.union.Goals as goal

pub returns : goal.returns
returns c = union-of max_bases c.args.a c.args.b
