-- `sheet_text::first_mistake`: what its loop keeps, and by what it ends.
use Rattle.sheet_text.proofs.Rest.{Rest}
use Prim.Native.Nat.{◌+◌, ◌-◌, ◌≤◌}
use lib.ListN.{length}
use Rattle.sheet_text.proofs.first_mistake.Given as goal

abbrev pub invariant-loop-at : goal.invariant-loop-at
invariant-loop-at l = record {
  in_text : l.at ≤ length l.text;
  few_parts : l.seen.parts ≤ l.at;
  few_steps : l.seen.steps ≤ l.at;
  few_lines : l.line ≤ l.at + 1;
  rest : Rest l.text l.at l.line l.seen.told l.seen.parts l.seen.steps;
}

abbrev pub decreases-loop-at : goal.decreases-loop-at
decreases-loop-at l = length l.text - l.at
