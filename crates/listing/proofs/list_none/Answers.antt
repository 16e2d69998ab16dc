-- `listing::list_none`: the answers to the goals that the check leaves.
use mathlib.Core.Path.{refl}
use Rattle.listing.specs.Listing.{no_listing}
use Rattle.listing.proofs.list_none.Goals as goal

pub returns : goal.returns
unfolding no_listing
returns c = refl
