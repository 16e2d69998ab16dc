-- `forms::nth_number`: what its loop keeps.
use Rattle.std.proofs.Common.{◌≡◌, ◌-◌, ◌≤◌, length, drop, get_or}
use Rattle.forms.specs.Forms.{numbers}
use Rattle.lexing.specs.Tokens.{row}
use Rattle.forms.proofs.nth_number.Given as goal

abbrev pub invariant-loop : goal.invariant-loop
invariant-loop l = record {
  in_text : l.i ≤ length l.text;
  rest : get_or (numbers (row (l.n - l.counter) (drop l.i l.text))) l.skip 0 ≡ get_or (numbers (row l.n (drop l.at l.text))) l.k 0;
}
