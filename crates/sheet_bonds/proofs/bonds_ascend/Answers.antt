-- `sheet_bonds::bonds_ascend`: the answers to the goals that the check leaves.
use Rattle.std.proofs.Common.{rules, tests}
use Rattle.net.specs.Net.{less_bond}
use Rattle.format.specs.Sides.{bond_count, nth_bond}
use Rattle.format.proofs.Chains.{ascends_in_table}
use Rattle.sheet_bonds.proofs.bonds_ascend.Goals as goal

pub returns : goal.returns
returns c =
    let b = c.args.b.now in
    ascends_in_table less_bond (nth_bond b c.args.out) (bond_count b c.args.out) c.all.ensures.ran (cc) (λ x r q k. search (rules, tests))
