-- `reasons::first_later`: what its loop keeps.
use Rattle.std.proofs.Common.{◌≡◌}
use Rattle.firings.proofs.Lines.{lines}
use Rattle.reasons.specs.Reasons.{later_at}
use Rattle.reasons.proofs.Later.{from}
use Rattle.reasons.proofs.first_later.Given as goal

abbrev pub invariant-loop-j : goal.invariant-loop-j
invariant-loop-j l = later_at (lines l.f.live l.f.transitions l.f.keys l.f.moved) l.i ≡ from l.f.live l.f.transitions l.f.keys l.f.moved l.i l.j
