-- `words::count_bases`: the answers to the goals that the check leaves.
use borrow.Author.Rules.{rules}
use Rattle.net.specs.Limits.{max_bases}
use Rattle.words.proofs.Bits.{size-ones}
use Rattle.words.proofs.count_bases.Goals as goal

pub returns : goal.returns
returns c = size-ones max_bases c.args.w (search rules)
