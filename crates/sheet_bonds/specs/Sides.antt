-- The place of an entry on a side of its transition, as the couplings of that side ask for it: false for in-places, true for out-places.
-- Definitions only.
use Rattle.std.specs.Prelude.{ℕ, Bool, true, false}
use Rattle.net.specs.declared.Entry.{Entry}

abbrev pub side_of : Bool → Entry → ℕ
side_of true e = e.to
side_of false e = e.from
