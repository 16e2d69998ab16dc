-- The condition under which a sheet is turned away for a transition's couplings (01, the turned-away list, 9).
-- Definitions only. It is a test of that transition's bytes b that passes where the sheet is refused.
use Rattle.std.specs.Prelude.{ℕ, Bool, not, List}
use Rattle.net.specs.Rules.{arcs_bonds_rule}
use Rattle.format.specs.Arcs.{arcs_in}

-- 9: a coupling breaks its rule.
unfoldable pub wrong_bonds : List ℕ → Bool
wrong_bonds b = not (arcs_bonds_rule (arcs_in b))
