-- `sheet_draft::make_sheet`: the answers to the goals that the check leaves.
use Rattle.sheet_draft.proofs.Sheet.{few-parts, few-steps, all_fit}
use Rattle.sheet_draft.specs.Bytes.{count_of, counts_fit}
use Rattle.sheet_draft.specs.declared.Made.TheVariants.{Sheet}
use borrow.Author.Tests.{leb-true}
use mathlib.Core.Bool.{true, false}
use native.Mathlib.Omega.{arith}
use mathlib.Core.Path.{◌≡◌, refl, ap, sym, ◌∙◌}
use Rattle.sheet_draft.proofs.make_sheet.Goals as goal

pub returns-then-not-counts_fit : goal.returns-then-not-counts_fit
returns-then-not-counts_fit c =
    let t : counts_fit c.args.steps c.args.acts.now ≡ false = sym c.counts_fit.ensures ∙ c.if-not-counts_fit.true in
    rw t record {
      value = refl;
      buf_after = refl;
    }

pub overflow_cast-parts : goal.overflow_cast-parts
overflow_cast-parts c =
    let t : counts_fit c.args.steps c.args.acts.now ≡ true = sym c.counts_fit.ensures ∙ c.if-not-counts_fit.false in
    let n = leb-true (count_of 0 c.args.acts.now) 255 (few-parts c.args.acts.now c.args.steps t) in
    omega (arith, c.count_of-parts.ensures)

pub overflow_cast-steps : goal.overflow_cast-steps
overflow_cast-steps c =
    let t : counts_fit c.args.steps c.args.acts.now ≡ true = sym c.counts_fit.ensures ∙ c.if-not-counts_fit.false in
    let n = leb-true c.args.steps 255 (few-steps c.args.acts.now c.args.steps t) in
    omega arith

pub put_sheet-size-requires : goal.put_sheet-size-requires
put_sheet-size-requires c =
    let t : counts_fit c.args.steps c.args.acts.now ≡ true = sym c.counts_fit.ensures ∙ c.if-not-counts_fit.false in
    let h = c.requires.0 in (
      record {
        counted = c.count_of-parts.ensures;
        few_steps = leb-true c.args.steps 255 (few-steps c.args.acts.now c.args.steps t);
        fit = all_fit c.args.acts.now c.args.steps t;
        few_acts = h.few_acts;
        size = h.size;
      },
      c.requires.1,
    )

pub returns : goal.returns
returns c =
    let t : counts_fit c.args.steps c.args.acts.now ≡ true = sym c.counts_fit.ensures ∙ c.if-not-counts_fit.false in
    rw t record {
      value = ap Sheet c.put_sheet-size.ensures.0;
      buf_after = c.put_sheet-size.ensures.1;
    }
