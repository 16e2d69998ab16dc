-- `final_lines::widened`: the answers to the goals that the check leaves.
use Rattle.std.proofs.Common.{rules, arith}
use Rattle.std.proofs.lemmas.Grind.{same_number_lists}
use Rattle.final_lines.proofs.widened.Goals as goal

pub returns : goal.returns
returns c =
    same_number_lists _ _ (search rules) (λ i h. let w = c.map.ensures.items.at i 0 0 (omega (arith, c.map.ensures.items.long)) in search rules)
