-- `session_start::start`: the answers to the goals that the check leaves.
use mathlib.Core.Path.{sym, ◌∙◌}
use Rattle.replaying.proofs.Starts.{start_fits}
use Rattle.sound.proofs.Refusing.{sheet-clear}
use Rattle.session_start.proofs.Starting.{refused, started}
use Rattle.session_start.proofs.start.Goals as goal

pub returns-then-refusal-ne0 : goal.returns-then-refusal-ne0
returns-then-refusal-ne0 c =
    let number = c.number-refusal.ensures ∙ c.check_sheet-checked.ensures.result_value in
    record {
      value = refused c.args.sheet.now _ number _ c.if-refusal-ne0.true c.zero_record.ensures;
      answer_value = number;
    }

pub start_marking-m-requires : goal.start_marking-m-requires
start_marking-m-requires c = start_fits c.args.sheet.now (sheet-clear c.args.sheet.now _ (c.number-refusal.ensures ∙ c.check_sheet-checked.ensures.result_value) c.if-refusal-ne0.false)

pub returns : goal.returns
returns c =
    let number = c.number-refusal.ensures ∙ c.check_sheet-checked.ensures.result_value in
    record {
      value = started c.args.sheet.now _ number _ _ c.if-refusal-ne0.false c.start_marking-m.ensures c.no_firings.ensures;
      answer_value = sym c.if-refusal-ne0.false ∙ number;
    }
