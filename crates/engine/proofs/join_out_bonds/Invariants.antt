-- `engine::join_out_bonds`: what its loop keeps.
use lib.ListN.{drop}
use Rattle.net.specs.Tests.{table}
use Rattle.format.specs.Arcs.{out_count, nth_out_bond}
use Rattle.labels.specs.Labelled.{Fits}
use Rattle.engine.proofs.Labels.{Joins}
use Rattle.engine.proofs.join_out_bonds.Given as goal

abbrev pub invariant-loop-i : goal.invariant-loop-i
invariant-loop-i l =
    Fits l.labels.of l.labels.members × Joins l.initial.labels.of l.initial.labels.members l.labels.of l.labels.members (drop l.i (table (out_count l.step) (nth_out_bond l.step)))
