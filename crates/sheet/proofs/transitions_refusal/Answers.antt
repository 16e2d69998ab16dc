-- `sheet::transitions_refusal`: the answers to the goals that the check leaves.
use Rattle.std.proofs.Common.{arith, ◌≡◌, ◌-◌, ◌+◌, sym, ◌∙◌, None, rules}
use Rattle.format.specs.Parts.{transitions_of}
use Rattle.sheet.proofs.Order.{refusals-from}
use Rattle.sheet.proofs.transitions_refusal.Goals as goal

pub loop-k-preserved : goal.loop-k-preserved
loop-k-preserved c =
    let k = c.loop-k.k in
    let m = transitions_of c.args.sheet.now - k in
    let none : c.refusal_at.result ≡ None = search rules in
    let e : m - 1 ≡ transitions_of c.args.sheet.now - (k + 1) = omega arith in
    c.loop-k.invariant ∙ (refusals-from c.args.sheet.now k m (omega arith) (sym c.refusal_at.ensures ∙ none) ∙ rw e)
