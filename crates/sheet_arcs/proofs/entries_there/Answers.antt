-- `sheet_arcs::entries_there`: the answers to the goals that the check leaves.
use Rattle.std.proofs.Common.{rules, tests}
use Rattle.net.specs.Rules.{entry_rule}
use Rattle.format.specs.Arcs.{entry_count, nth_entry}
use Rattle.format.proofs.Chains.{all_in_table}
use Rattle.sheet_arcs.proofs.entries_there.Goals as goal

pub returns : goal.returns
returns c =
    let b = c.args.b.now in
    all_in_table (entry_rule c.args.places c.args.bases) (nth_entry b) (entry_count b) c.all.ensures.ran (cc) (λ x r q k. search (rules, tests))
