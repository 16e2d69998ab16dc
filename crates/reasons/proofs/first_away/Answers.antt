-- `reasons::first_away`: the answers to the goals that the check leaves.
use Rattle.std.proofs.Common.{◌∙◌, ap, unwrap_or, rules, tests}
use Rattle.format.specs.Arcs.{entry_count, nth_entry}
use Rattle.format.proofs.Chains.{find_in_table}
use Rattle.reasons.specs.Reasons.{away_from}
use Rattle.reasons.proofs.first_away.Goals as goal

pub returns : goal.returns
returns c =
    let s = c.args.step.now in
    c.unwrap_or.ensures ∙ ap (unwrap_or c.find.result) c.entry_count-n.ensures
    ∙ find_in_table (away_from c.args.places.now) (nth_entry s) (entry_count s) _ c.find.result c.find.ensures.ran (cc) (λ x b q k. search (rules, tests))
