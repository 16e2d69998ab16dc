-- `timed::blocks::run_list` is safe and ends.
use Rattle.std.proofs.Common.{◌∙◌, rules}
use Rattle.sound.proofs.Refusing.{sheet-clear}
use Rattle.session_start.proofs.Starting.{started-sound}
use Rattle.timed.proofs.blocks.run_list.Goals as goal

pub run-ran-requires : goal.run-ran-requires
run-ran-requires c =
    let a = sheet-clear c.args.sheet.now _ (c.number-refusal.ensures ∙ c.check_sheet-checked.ensures.result_value) c.if-refusal-ne0.false in
    (started-sound c.args.sheet.now _ c.start-first.ensures.value a, search rules, search rules)
