-- `sheet_bonds::bond_joins`: the answers to the goals that the check leaves.
use Rattle.std.proofs.Common.{rules, tests}
use Rattle.format.specs.Arcs.{arcs_in, entry_count, nth_entry}
use Rattle.format.proofs.Chains.{any_in_table}
use Rattle.sheet_bonds.proofs.Tests.{starting}
use Rattle.sheet_bonds.proofs.bond_joins.Goals as goal

pub returns-then-x : goal.returns-then-x
returns-then-x c =
    let b = c.args.b.now in
    let a = any_in_table (starting c.args.out (arcs_in b).entries c.args.x) (nth_entry b) (entry_count b) c.any.ensures.ran (cc) (λ x r q k. search (rules, tests)) in
    search rules
