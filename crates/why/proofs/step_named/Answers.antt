-- `why::step_named`: the answers to the goals that the check leaves.
use mathlib.Core.Path.{ap, ◌∙◌}
use Prim.Native.Nat.{ℕ}
use Rattle.net.specs.Journal.{transition}
use Rattle.format.specs.Parts.{transition_bytes}
use Rattle.why.proofs.step_named.Goals as goal

pub returns : goal.returns
returns c = c.transition_bytes.ensures ∙ ap (λ (n : ℕ). transition_bytes c.args.sheet.now (transition n)) c.word_at.ensures.value
