-- `text::put_word`: the answers to the goals that the check leaves.
use native.Mathlib.Omega.{arith}
use mathlib.Core.Path.{refl}
use Rattle.text.proofs.Writes.{copied}
use Rattle.text.proofs.put_word.Goals as goal

pub returns : goal.returns
returns c = (refl, copied _ _ _ _ _ c.copy_from_slice.ensures.after (omega arith) (omega arith))
