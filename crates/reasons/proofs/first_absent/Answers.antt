-- `reasons::first_absent`: the answers to the goals that the check leaves.
use Rattle.std.proofs.Common.{◌∙◌, ap, unwrap_or, rules, tests}
use Rattle.marking.specs.Form.{bonds_of}
use Rattle.format.specs.Arcs.{in_count, nth_in_bond}
use Rattle.format.proofs.Chains.{find_in_table}
use Rattle.reasons.specs.Reasons.{absent_from}
use Rattle.reasons.proofs.first_absent.Goals as goal

pub returns : goal.returns
returns c =
    let s = c.args.step.now in
    c.unwrap_or.ensures ∙ ap (unwrap_or c.find.result) c.in_count-n.ensures
    ∙ find_in_table (absent_from (bonds_of c.args.m.now)) (nth_in_bond s) (in_count s) _ c.find.result c.find.ensures.ran (cc) (λ x b q k. search (rules, tests))
