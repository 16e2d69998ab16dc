-- `firings::Firings::keys_climb`: what its loops keep.
use mathlib.Core.Path.{◌≡◌}
use mathlib.Core.Bool.{◌&&◌}
use lib.ListN.{drop}
use Rattle.firings.specs.Search.{keys_in}
use Rattle.firings.specs.Form.{climbs}
use Rattle.firings.proofs.Firings.keys_climb.Given as goal

abbrev pub invariant-loop-k : goal.invariant-loop-k
invariant-loop-k l = climbs 0 (keys_in l.self.live l.self.keys) ≡ (l.ok && climbs l.last (drop l.k-index (keys_in l.self.live l.self.keys)))
