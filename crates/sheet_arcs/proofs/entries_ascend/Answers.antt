-- `sheet_arcs::entries_ascend`: the answers to the goals that the check leaves.
use Rattle.std.proofs.Common.{ltb, rules, tests}
use Rattle.net.specs.declared.Entry.{Entry}
use Rattle.format.specs.Arcs.{entry_count, nth_entry}
use Rattle.format.proofs.Chains.{ascends_in_table}
use Rattle.sheet_arcs.proofs.entries_ascend.Goals as goal

pub returns : goal.returns
returns c =
    let b = c.args.b.now in
    ascends_in_table (λ (e d : Entry). ltb e.base d.base) (nth_entry b) (entry_count b) c.all.ensures.ran (cc) (λ x r q k. search (rules, tests))
