-- The tally with one more fired, undone or refused, computed: the other two counts stay, and a count at 65,535 stays too.
-- Assumes nothing.
use mathlib.Core.Path.{◌≡◌, refl}
use Rattle.tally.specs.Counts.{one_more}
use Rattle.tally.specs.declared.Tally.{Tally}
use Rattle.claims.specs.Demands.{one_more_fired, one_more_undone, one_more_refused}

abbrev some : Tally
some = record { fired = 3; undone = 65535; refused = 0 }

pub fired-counted : one_more_fired some ≡ record { fired = 4; undone = 65535; refused = 0 }
unfolding one_more
fired-counted = refl

pub undone-counted : one_more_undone some ≡ some
unfolding one_more
undone-counted = refl

pub refused-counted : one_more_refused some ≡ record { fired = 3; undone = 65535; refused = 1 }
unfolding one_more
refused-counted = refl
