-- `lexing::end_of`: what its loop keeps.
use Rattle.std.proofs.Common.{◌≡◌, drop}
use Rattle.lexing.specs.Tokens.{past}
use Rattle.lexing.specs.Found.{passes}
use Rattle.lexing.proofs.end_of.Given as goal

abbrev pub invariant-loop-i : goal.invariant-loop-i
invariant-loop-i l = past (passes l.class) (drop l.i l.text) ≡ past (passes l.class) (drop l.at l.text)
