-- `reasons::first_common`: the answers to the goals that the check leaves.
use Rattle.std.proofs.Common.{◌∙◌, rules, tests}
use Rattle.net.specs.Limits.{max_bases}
use Rattle.words.specs.Sets.{set_of}
use Rattle.format.proofs.Chains.{find_in_table}
use Rattle.reasons.specs.Reasons.{in_both}
use Rattle.reasons.proofs.first_common.Goals as goal

pub returns : goal.returns
returns c =
    c.unwrap_or.ensures
    ∙ find_in_table (in_both (set_of max_bases c.args.a) (set_of max_bases c.args.b)) (λ p. p) max_bases _ c.find.result c.find.ensures.ran (cc) (λ x b q k. search (rules, tests))
