-- `way_back::gone_keys`: what its loop keeps.
use Rattle.std.proofs.Common.{ℕ}
use Rattle.firings.specs.Lines.{lines_in}
use Rattle.way_back.specs.Ways.{away}
use Rattle.way_back.proofs.Going.{InHand}
use Rattle.way_back.proofs.gone_keys.Given as goal

abbrev pub invariant-loop-i : goal.invariant-loop-i
invariant-loop-i l = (n : ℕ) → InHand (away (lines_in n l.after)) (lines_in n l.before) l.i l.keys l.count
