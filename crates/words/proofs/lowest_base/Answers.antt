-- `words::lowest_base`: the answers to the goals that the check leaves.
use borrow.Author.Rules.{rules}
use Rattle.net.specs.Limits.{max_bases}
use Rattle.words.proofs.Bits.{lowest-in}
use Rattle.words.proofs.lowest_base.Goals as goal

pub returns : goal.returns
returns c = lowest-in max_bases c.args.w (search rules) c.requires
