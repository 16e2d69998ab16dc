-- `reading::read_input`: the answers to the goals that the check leaves.
use native.Mathlib.Omega.{arith}
use mathlib.Core.Path.{◌∙◌}
use Rattle.output.proofs.Input.{read-refused, read-accepted}
use Rattle.reading.proofs.Rooms.{IfFull-weaker}
use Rattle.reading.proofs.read_input.Goals as goal

pub returns-then-number-ne0-clause-n_value : goal.returns-then-number-ne0-clause-n_value
returns-then-number-ne0-clause-n_value g c =
    let word = c.word_at-sheet_end.ensures.value in
    let second = c.read_to-second in
    let number = c.number.ensures ∙ c.check_sheet-checked.ensures.result_value in
    let looked = read-refused _ c.read_to-first.new.room second.new.room word second.ensures.before _ number c.if-number-ne0.true in
    IfFull-weaker second.result _ _ (λ n e. rw e looked) second.ensures.full

pub returns : goal.returns
returns g c =
    let word = c.word_at-sheet_end.ensures.value in
    let second = c.read_to-second in
    let third = c.read_to in
    let number = c.number.ensures ∙ c.check_sheet-checked.ensures.result_value in
    let looked = read-accepted _ c.read_to-first.new.room second.new.room word second.ensures.before _ number c.if-number-ne0.false third.new.room third.ensures.before in
    record {
      n_in_bounds = omega (arith, third.ensures.bound, c.word_at-sheet_end.ensures.upper_bound, c.requires);
      n_value = IfFull-weaker third.result _ _ (λ n e. rw e looked) third.ensures.full;
    }
