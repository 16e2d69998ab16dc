-- `sheet_text::line_of`: the answers to the goals that the check leaves.
use mathlib.Core.Bool.{true, false}
use Rattle.lexing.specs.Tokens.{Token, row}
use Rattle.sheet_text.specs.declared.Line.TheVariants.{Places, Part, Coupled, Step}
use Rattle.sheet_text.specs.Lines.{line_of}
use Rattle.sheet_text.proofs.Read.{is-blank, is-places, is-part, is-coupled, is-step}
use lib.ListN.{drop}
use mathlib.Core.List.{List}
use Rattle.sheet_text.proofs.line_of.Goals as goal

pub returns-then-has_form : goal.returns-then-has_form
unfolding line_of
returns-then-has_form c =
    let ts : List Token = row 8 (drop c.args.at c.args.text.now) in
    rw (is-blank ts _ true (c.has_form.ensures, c.if-has_form.true))

pub returns-then-has_form-2 : goal.returns-then-has_form-2
unfolding line_of
returns-then-has_form-2 c =
    let ts : List Token = row 8 (drop c.args.at c.args.text.now) in
    rw (is-blank ts _ false (c.has_form.ensures, c.if-has_form.false), is-places ts _ true (c.has_form-2.ensures, c.if-has_form-2.true)) (λ i. Places (c.nth_number-p.ensures i))

pub returns-then-has_form-3 : goal.returns-then-has_form-3
unfolding line_of
returns-then-has_form-3 c =
    let ts : List Token = row 8 (drop c.args.at c.args.text.now) in
    rw (
      is-blank ts _ false (c.has_form.ensures, c.if-has_form.false),
      is-places ts _ false (c.has_form-2.ensures, c.if-has_form-2.false),
      is-part ts _ true (c.has_form-else-has_form-2.ensures, c.if-has_form-3.true),
    ) (λ i. Part (c.nth_number-p.ensures i) (c.nth_number-q.ensures i))

pub returns-then-has_form-4 : goal.returns-then-has_form-4
unfolding line_of
returns-then-has_form-4 c =
    let ts : List Token = row 8 (drop c.args.at c.args.text.now) in
    rw (
      is-blank ts _ false (c.has_form.ensures, c.if-has_form.false),
      is-places ts _ false (c.has_form-2.ensures, c.if-has_form-2.false),
      is-part ts _ false (c.has_form-else-has_form-2.ensures, c.if-has_form-3.false),
      is-coupled ts _ true (c.has_form-else-has_form-3.ensures, c.if-has_form-4.true),
    ) (λ i. Coupled (c.nth_number-p.ensures i) (c.nth_number-q.ensures i))

pub returns-then-has_form-5 : goal.returns-then-has_form-5
unfolding line_of
returns-then-has_form-5 c =
    let ts : List Token = row 8 (drop c.args.at c.args.text.now) in
    rw (
      is-blank ts _ false (c.has_form.ensures, c.if-has_form.false),
      is-places ts _ false (c.has_form-2.ensures, c.if-has_form-2.false),
      is-part ts _ false (c.has_form-else-has_form-2.ensures, c.if-has_form-3.false),
      is-coupled ts _ false (c.has_form-else-has_form-3.ensures, c.if-has_form-4.false),
      is-step ts _ true (c.has_form-else-has_form-4.ensures, c.if-has_form-5.true),
    ) (λ i. Step (c.nth_number-p.ensures i))

pub returns-else-has_form-5 : goal.returns-else-has_form-5
unfolding line_of
returns-else-has_form-5 c =
    let ts : List Token = row 8 (drop c.args.at c.args.text.now) in
    rw (
      is-blank ts _ false (c.has_form.ensures, c.if-has_form.false),
      is-places ts _ false (c.has_form-2.ensures, c.if-has_form-2.false),
      is-part ts _ false (c.has_form-else-has_form-2.ensures, c.if-has_form-3.false),
      is-coupled ts _ false (c.has_form-else-has_form-3.ensures, c.if-has_form-4.false),
      is-step ts _ false (c.has_form-else-has_form-4.ensures, c.if-has_form-5.false),
    ) c.step_line.ensures
