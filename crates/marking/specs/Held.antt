-- A marking that lies in lent arrays, as the struct that holds it: so the definitions of Form speak of it.
-- Definitions only.
use Rattle.std.specs.Prelude.{List, ℕ}
use Rattle.marking.specs.declared.Marking.{Marking}

-- the places, the number of bonds, and their ends
abbrev pub holding : List ℕ → ℕ → List ℕ → List ℕ → Marking
holding places count lo hi = record { places = places; count = count; lo = lo; hi = hi }
