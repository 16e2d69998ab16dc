-- `bonds::stands_at`: the answers to the goals that the check leaves.
use mathlib.Core.Path.{◌∙◌}
use borrow.Author.Rules.{rules}
use Rattle.net.specs.Net.{same_bond, less_bond}
use Rattle.net.proofs.Bonds.{bond-order}
use Rattle.bonds.specs.Ends.{ends}
use Rattle.bonds.proofs.Halves.{has-at-rank, none-past}
use Rattle.bonds.proofs.stands_at.Goals as goal

pub returns-then-k-count : goal.returns-then-k-count
returns-then-k-count c = c.is_bond.ensures ∙ has-at-rank same_bond less_bond bond-order c.args.count (ends c.args.lo.now c.args.hi.now) c.requires.count_in_bounds.2 c.args.b c.args.k c.requires.k_value (search rules)

pub returns-else-k-count : goal.returns-else-k-count
returns-else-k-count c = none-past same_bond less_bond bond-order c.args.count (ends c.args.lo.now c.args.hi.now) c.requires.count_in_bounds.2 c.args.b c.args.k c.requires.k_value (search rules)
