-- `sheet_draft::bytes::tagged_size`: the answers to the goals that the check leaves.
use Rattle.sheet_draft.proofs.Writing.{times-upto}
use Rattle.sheet_draft.proofs.Tagged.{count-upto, tagged-length}
use native.Mathlib.Omega.{arith}
use mathlib.Core.Path.{ap, sym, ◌∙◌}
use Prim.Native.Nat.{ℕ, ◌*◌}
use Rattle.sheet_draft.proofs.bytes.tagged_size.Goals as goal

pub overflow_mul-result : goal.overflow_mul-result
overflow_mul-result c =
    let n = count-upto c.args.tag c.args.acts.now in
    let h = times-upto c.args.w c.count_of.result c.requires.0 (omega (arith, c.count_of.ensures)) in
    omega arith

pub returns : goal.returns
returns c =
    let n = count-upto c.args.tag c.args.acts.now in
    let h = times-upto c.args.w c.count_of.result c.requires.0 (omega (arith, c.count_of.ensures)) in
    (ap (λ (k : ℕ). c.args.w * k) c.count_of.ensures ∙ sym (tagged-length c.args.w c.args.tag c.args.acts.now c.requires.0), h)
