-- `groups::moved_word`: what its loop keeps.
use mathlib.Core.Path.{◌≡◌}
use Rattle.net.specs.Limits.{max_bases}
use Rattle.net.specs.Tests.{table}
use Rattle.format.specs.Arcs.{nth_entry}
use Rattle.words.specs.Sets.{set_of}
use Rattle.labels.specs.Labelled.{label_in}
use Rattle.groups.proofs.Moving.{moves_by}
use Rattle.groups.proofs.moved_word.Given as goal

abbrev pub invariant-loop-i : goal.invariant-loop-i
invariant-loop-i l = set_of max_bases l.w ≡ table max_bases (moves_by (label_in l.labels.of) (table l.i (nth_entry l.step)))
