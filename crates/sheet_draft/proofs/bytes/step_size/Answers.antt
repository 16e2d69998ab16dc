-- `sheet_draft::bytes::step_size`: the answers to the goals that the check leaves.
use Rattle.sheet_draft.proofs.Writing.{step-length}
use native.Mathlib.Omega.{arith}
use Rattle.sheet_draft.proofs.bytes.step_size.Goals as goal

pub returns : goal.returns
returns c = omega (arith, step-length c.args.acts.now c.args.k, c.tagged_size-a.ensures.0, c.tagged_size-b.ensures.0, c.tagged_size-c.ensures.0)
