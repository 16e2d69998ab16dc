-- `reading::read_to`: the answers to the goals that the check leaves.
use borrow.Author.Rules.{rules}
use mathlib.Core.Path.{refl, ◌∙◌}
use Rattle.output.proofs.Input.{take_less}
use Rattle.reading.proofs.read_to.Goals as goal

pub loop-at-init : goal.loop-at-init
loop-at-init g c = (search rules, search rules, search rules, refl, refl)

pub loop-at-preserved : goal.loop-at-preserved
loop-at-preserved g c =
    (search rules, search rules, search rules, search rules, take_less _ _ _ _ c.loop-at.invariant.0 c.read_part.ensures.before ∙ c.loop-at.invariant.4)

pub returns-in-Ok-eq0-clause-before : goal.returns-in-Ok-eq0-clause-before
returns-in-Ok-eq0-clause-before g c = take_less _ _ _ _ c.loop-at.invariant.0 c.read_part.ensures.before ∙ c.loop-at.invariant.4

pub returns-in-Err-clause-before : goal.returns-in-Err-clause-before
returns-in-Err-clause-before g c = take_less _ _ _ _ c.loop-at.invariant.0 c.read_part.ensures.before ∙ c.loop-at.invariant.4
