-- `reasons::first_present`: the answers to the goals that the check leaves.
use Rattle.std.proofs.Common.{◌∙◌, ap, unwrap_or, rules, tests}
use Rattle.marking.specs.Form.{bonds_of}
use Rattle.format.specs.Arcs.{out_count, nth_out_bond, arcs_in}
use Rattle.format.proofs.Chains.{find_in_table}
use Rattle.reasons.specs.Reasons.{present_in}
use Rattle.reasons.proofs.first_present.Goals as goal

pub returns : goal.returns
returns c =
    let s = c.args.step.now in
    c.unwrap_or.ensures ∙ ap (unwrap_or c.find.result) c.out_count-n.ensures
    ∙ find_in_table (present_in (arcs_in s).in_bonds (bonds_of c.args.m.now)) (nth_out_bond s) (out_count s) _ c.find.result c.find.ensures.ran (cc) (λ x b q k. search (rules, tests))
