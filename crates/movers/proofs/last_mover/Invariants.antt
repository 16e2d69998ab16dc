-- `movers::last_mover`: what its loops keep.
use Rattle.net.specs.Limits.{max_bases}
use Rattle.firings.proofs.Lines.{line_at}
use Rattle.movers.proofs.Tops.{Last}
use Rattle.movers.proofs.last_mover.Given as goal

abbrev pub invariant-loop-i : goal.invariant-loop-i
invariant-loop-i l = Last l.p (line_at max_bases l.f) l.i l.last
