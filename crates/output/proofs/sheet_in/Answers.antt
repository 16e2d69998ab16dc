-- `output::sheet_in`: the answers to the goals that the check leaves.
use mathlib.Core.Path.{ap, ◌∙◌}
use Prim.Native.Nat.{ℕ}
use lib.ListN.{take, drop}
use Rattle.output.proofs.sheet_in.Goals as goal

pub returns : goal.returns
returns c = c.bytes_from.ensures ∙ ap (λ (k : ℕ). take k (drop 2 c.args.input.now)) c.word_at.ensures.value
