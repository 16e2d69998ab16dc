-- `sheet_draft::counts::steps_fit`: the answers to the goals that the check leaves.
use native.Mathlib.Omega.{arith}
use mathlib.Core.Path.{◌≡◌, refl, sym, ap, ◌∙◌}
use mathlib.Core.Bool.{Bool, true, false, ◌&&◌}
use Rattle.net.proofs.Tables.{all_more, get_d-table, length-table}
use Rattle.net.proofs.Tests.{all-at}
use Rattle.net.specs.Tests.{table}
use Rattle.sheet_draft.specs.Bytes.{step_fits}
use Rattle.sheet_draft.proofs.counts.steps_fit.Goals as goal

no : (b : Bool) → (b ≡ true → ⊥) → false ≡ b
no true h = absurd (h refl)
no false h = refl

pub returns-then-not-step_fits : goal.returns-then-not-step_fits
returns-then-not-step_fits c =
    let f = step_fits c.args.acts.now in
    let k = c.loop-k.k in
    let at = get_d-table c.args.steps (λ i. i) k 0 (omega arith) in
    no _ (λ h. let t = all-at f (table c.args.steps (λ i. i)) 0 k h (omega (arith, length-table c.args.steps (λ i. i))) in
    let e : true ≡ false = sym t ∙ ap f at ∙ sym c.step_fits.ensures ∙ c.if-not-step_fits.true in cc)

pub loop-k-preserved : goal.loop-k-preserved
loop-k-preserved c =
    all_more (step_fits c.args.acts.now) c.loop-k.k (λ i. i) ∙ (λ i. c.loop-k.invariant i && (sym c.step_fits.ensures ∙ c.if-not-step_fits.false) i)
