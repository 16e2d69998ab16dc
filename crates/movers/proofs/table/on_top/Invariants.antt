-- `movers::table::on_top`: what its loops keep, and by what they end.
use mathlib.Core.Path.{◌≡◌}
use Rattle.net.specs.Limits.{max_bases}
use Rattle.words.specs.Sets.{set_of}
use Rattle.movers.specs.Lamp.{key_at_all}
use Rattle.movers.proofs.table.on_top.Given as goal

abbrev pub invariant-loop-rest : goal.invariant-loop-rest
invariant-loop-rest l = key_at_all max_bases l.table (set_of max_bases l.rest) l.key.0 ≡ key_at_all max_bases l.table (set_of max_bases l.set) l.key.0

abbrev pub decreases-loop-rest : goal.decreases-loop-rest
decreases-loop-rest l = l.rest
