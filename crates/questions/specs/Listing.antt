-- The listing asked of a record (02, T-09): 1 to 10 are checked first.
-- Definitions only. `listing_for` fixes every outcome whole.
use Rattle.std.specs.Prelude.{List, [], ℕ}
use Rattle.net.specs.Tests.{pick}
use Rattle.net.specs.Checks.{clear, first}
use Rattle.listing.specs.First.{listing}
use Rattle.listing.specs.Listing.{listing_of, no_listing}
use Rattle.listing.specs.declared.Listing.{Listing}
use Rattle.session.specs.Records.{held_in}
use Rattle.session.specs.Commands.{record_checks}
use Rattle.session.specs.declared.Record.{Record}

-- every field: the step numbers of the live firings in the order of the listing, and their number; none where the call is refused
unfoldable pub listing_for : List ℕ → Record → Listing
listing_for s r = pick (clear (record_checks s r [])) (listing_of (listing (held_in s r).lines)) (no_listing (first (record_checks s r [])))
