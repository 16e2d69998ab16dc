-- `sheet_text::step_line`: the answers to the goals that the check leaves.
use mathlib.Core.Bool.{true, false}
use Rattle.lexing.specs.Tokens.{Token, row}
use Rattle.sheet_text.specs.declared.Line.TheVariants.{Move, Before, After}
use Rattle.sheet_text.specs.Lines.{step_line_of}
use Rattle.sheet_text.proofs.Read.{is_move, is-before, is-after}
use lib.ListN.{drop}
use mathlib.Core.List.{List}
use Rattle.sheet_text.proofs.step_line.Goals as goal

pub returns-then-has_form : goal.returns-then-has_form
unfolding step_line_of
returns-then-has_form c =
    let ts : List Token = row 8 (drop c.args.at c.args.text.now) in
    rw (is_move ts _ true (c.has_form.ensures, c.if-has_form.true)) (λ i. Move (c.nth_number-p.ensures i) (c.nth_number-q.ensures i) (c.nth_number.ensures i))

pub returns-then-has_form-2 : goal.returns-then-has_form-2
unfolding step_line_of
returns-then-has_form-2 c =
    let ts : List Token = row 8 (drop c.args.at c.args.text.now) in
    rw (is_move ts _ false (c.has_form.ensures, c.if-has_form.false), is-before ts _ true (c.has_form-else-has_form.ensures, c.if-has_form-2.true)) (λ i. Before (c.nth_number-p.ensures i) (c.nth_number-q.ensures i))

pub returns-then-has_form-3 : goal.returns-then-has_form-3
unfolding step_line_of
returns-then-has_form-3 c =
    let ts : List Token = row 8 (drop c.args.at c.args.text.now) in
    rw (
      is_move ts _ false (c.has_form.ensures, c.if-has_form.false),
      is-before ts _ false (c.has_form-else-has_form.ensures, c.if-has_form-2.false),
      is-after ts _ true (c.has_form-else-has_form-2.ensures, c.if-has_form-3.true),
    ) (λ i. After (c.nth_number-p.ensures i) (c.nth_number-q.ensures i))

pub returns-else-has_form-3 : goal.returns-else-has_form-3
unfolding step_line_of
returns-else-has_form-3 c =
    let ts : List Token = row 8 (drop c.args.at c.args.text.now) in
    rw (is_move ts _ false (c.has_form.ensures, c.if-has_form.false), is-before ts _ false (c.has_form-else-has_form.ensures, c.if-has_form-2.false), is-after ts _ false (c.has_form-else-has_form-2.ensures, c.if-has_form-3.false))
