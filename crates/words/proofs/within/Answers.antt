-- `words::within`: the answers to the goals that the check leaves.
use borrow.Author.Rules.{rules}
use Rattle.net.specs.Limits.{max_bases}
use Rattle.words.proofs.Bits.{within_of}
use Rattle.words.proofs.within.Goals as goal

pub returns : goal.returns
returns c = within_of max_bases c.args.a c.args.b (search rules)
