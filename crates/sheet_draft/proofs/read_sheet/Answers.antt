-- `sheet_draft::read_sheet`: the answers to the goals that the check leaves.
use Rattle.sheet_draft.proofs.Makes.{mistaken}
use Rattle.sheet_text.specs.declared.Mistake as M
use mathlib.Core.Path.{ap, sym, ◌∙◌}
use Rattle.sheet_draft.proofs.read_sheet.Goals as goal

pub returns-then-m-ne0 : goal.returns-then-m-ne0
returns-then-m-ne0 c = let both = mistaken c.args.text.now c.first_mistake-m.result c.args.buf.now c.first_mistake-m.ensures c.if-m-ne0.true in record { value = both.0; buf_after = both.1 }

pub make-requires : goal.make-requires
make-requires c = (ap (λ (m : M.Mistake). m.line) (sym c.first_mistake-m.ensures) ∙ c.if-m-ne0.false, c.requires)

pub returns : goal.returns
returns c =
    record {
      value = c.make.ensures.value;
      buf_after = c.make.ensures.buf_after;
    }
