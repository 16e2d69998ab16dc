-- `sheet_bonds::bonds_join`: the answers to the goals that the check leaves.
use Rattle.std.proofs.Common.{rules, tests}
use Rattle.net.specs.Rules.{joins}
use Rattle.format.specs.Arcs.{arcs_in}
use Rattle.format.specs.Sides.{bond_count, nth_bond}
use Rattle.format.proofs.Chains.{all_in_table}
use Rattle.sheet_bonds.specs.Sides.{side_of}
use Rattle.sheet_bonds.proofs.bonds_join.Goals as goal

pub returns : goal.returns
returns c =
    let b = c.args.b.now in
    all_in_table (joins (side_of c.args.out) (arcs_in b).entries) (nth_bond b c.args.out) (bond_count b c.args.out) c.all.ensures.ran (cc) (λ x r q k. search (rules, tests))
