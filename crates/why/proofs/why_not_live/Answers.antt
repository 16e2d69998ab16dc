-- `why::why_not_live`: the answers to the goals that the check leaves.
use mathlib.Core.Path.{ap, ◌∙◌}
use Prim.Native.Nat.{ℕ}
use Rattle.net.specs.Journal.{key, number_of}
use Rattle.why.proofs.Latest.{kind-last, kind-key}
use Rattle.why.specs.declared.Reason.TheVariants as Reason
use Rattle.why.proofs.why_not_live.Goals as goal

pub returns-then-byte_at-eq2 : goal.returns-then-byte_at-eq2
returns-then-byte_at-eq2 c = kind-last c.args.bytes.now c.byte_at.result c.byte_at.ensures Reason.NoneLive (Reason.NotLive (key (number_of c.args.bytes.now))) c.if-byte_at-eq2.true

pub returns-else-byte_at-eq2 : goal.returns-else-byte_at-eq2
returns-else-byte_at-eq2 c = ap (λ (n : ℕ). Reason.NotLive (key n)) c.word_at.ensures.value ∙ kind-key c.args.bytes.now c.byte_at.result c.byte_at.ensures Reason.NoneLive (Reason.NotLive (key (number_of c.args.bytes.now))) c.if-byte_at-eq2.false
