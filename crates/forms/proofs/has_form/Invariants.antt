-- `forms::has_form`: what its loop keeps.
use Rattle.std.proofs.Common.{◌≡◌, ◌-◌, ◌≤◌, length, drop}
use Rattle.forms.specs.Forms.{fits}
use Rattle.lexing.specs.Tokens.{row}
use Rattle.forms.proofs.has_form.Given as goal

abbrev pub invariant-loop : goal.invariant-loop
invariant-loop l = record {
  in_text : l.i ≤ length l.text;
  in_form : l.j ≤ length l.form;
  rest : fits (row (l.n - l.counter) (drop l.j l.form)) (row (l.n - l.counter) (drop l.i l.text)) ≡ fits (row l.n l.form) (row l.n (drop l.at l.text));
}
