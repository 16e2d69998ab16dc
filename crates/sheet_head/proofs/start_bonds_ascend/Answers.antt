-- `sheet_head::start_bonds_ascend`: the answers to the goals that the check leaves.
use Rattle.std.proofs.Common.{rules, tests}
use Rattle.net.specs.Net.{less_bond}
use Rattle.format.specs.NetOf.{start_bond_count, nth_start_bond}
use Rattle.format.proofs.Chains.{ascends_in_table}
use Rattle.sheet_head.proofs.start_bonds_ascend.Goals as goal

pub returns : goal.returns
returns c =
    let s = c.args.sheet.now in
    ascends_in_table less_bond (nth_start_bond s) (start_bond_count s) c.all.ensures.ran (cc) (λ x b q k. search (rules, tests))
