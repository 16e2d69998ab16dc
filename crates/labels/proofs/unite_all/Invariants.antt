-- `labels::unite_all`: what its loops keep.
use Rattle.std.proofs.Common.{◌≡◌}
use Rattle.net.specs.Limits.{max_bases}
use Rattle.bonds.specs.Ends.{bonds_in}
use Rattle.labels.specs.Forest.{Spans, roots_below}
use Rattle.labels.proofs.unite_all.Given as goal

abbrev pub invariant-loop-i : goal.invariant-loop-i
invariant-loop-i l = (l.roots ≡ roots_below l.n l.l) × Spans max_bases l.l (bonds_in l.m.lo l.m.hi l.i)
