-- `forms::suits`: the answers to the goals that the check leaves.
use Rattle.std.proofs.Common.{◌∙◌}
use Rattle.forms.proofs.Rows.{suits-words}
use Rattle.forms.proofs.suits.Goals as goal

pub returns-in-Word-Word : goal.returns-in-Word-Word
returns-in-Word-Word c = c.eq.ensures ∙ suits-words _ _ c.args.q c.args.p c.requires.0 c.requires.1 c.in-Word-Word.is-0 c.in-Word-Word.is-1
