-- `replaying::replay`: what its loop keeps.
-- the run from the start is the run of the firings that are left, from the marking at a turn
use Rattle.labels.specs.Labelled.{Labelled}
use Rattle.marking.specs.Form.{bonds_of}
use Rattle.steps.specs.Placed.{Placed}
use Rattle.replaying.proofs.Lines.{Runs}
use Rattle.replaying.proofs.replay.Given as goal

abbrev pub invariant-loop-i : goal.invariant-loop-i
invariant-loop-i l = Placed l.sheet l.m × Labelled l.labels.of l.labels.members (bonds_of l.m) × Runs l.sheet l.f l.initial.m l.m l.i
