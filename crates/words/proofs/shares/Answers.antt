-- `words::shares`: the answers to the goals that the check leaves.
use borrow.Author.Rules.{rules}
use Rattle.words.proofs.Bits.{meets}
use Rattle.net.specs.Limits.{max_bases}
use Rattle.words.proofs.shares.Goals as goal

pub returns : goal.returns
returns c = meets max_bases c.args.a c.args.b (search rules)
