-- `sheet_bonds::has_partner`: the answers to the goals that the check leaves.
use Rattle.std.proofs.Common.{rules, tests}
use Rattle.format.specs.Arcs.{entry_count, nth_entry}
use Rattle.format.proofs.Chains.{any_in_table}
use Rattle.sheet_bonds.proofs.Tests.{partner}
use Rattle.sheet_bonds.proofs.has_partner.Goals as goal

pub returns : goal.returns
returns c =
    let b = c.args.b.now in
    any_in_table (partner c.args.out c.args.hi c.args.at) (nth_entry b) (entry_count b) c.any.ensures.ran (cc) (λ x r q k. search (rules, tests))
