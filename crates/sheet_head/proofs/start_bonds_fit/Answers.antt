-- `sheet_head::start_bonds_fit`: the answers to the goals that the check leaves.
use Rattle.std.proofs.Common.{rules, tests}
use Rattle.net.specs.Rules.{start_bond_rule}
use Rattle.format.specs.Parts.{bases_of}
use Rattle.format.specs.NetOf.{start_marking, start_bond_count, nth_start_bond}
use Rattle.format.proofs.Chains.{all_in_table}
use Rattle.sheet_head.proofs.start_bonds_fit.Goals as goal

pub returns : goal.returns
returns c =
    let s = c.args.sheet.now in
    all_in_table (start_bond_rule (bases_of s) (start_marking s)) (nth_start_bond s) (start_bond_count s) c.all.ensures.ran (cc) (λ x b q k. search (rules, tests))
