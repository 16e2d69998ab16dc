-- `sheet_text::line_at`: the answers to the goals that the check leaves.
use Rattle.sheet_text.proofs.FirstLine.{slice-take}
use Rattle.sheet_text.proofs.line_at.Goals as goal

pub returns : goal.returns
returns c = rw (slice-take c.args.text.now c.args.at c.args.to c.requires.0 c.requires.1) c.line_of.ensures
