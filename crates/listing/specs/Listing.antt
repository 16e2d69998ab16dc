-- What a call for the listing of a record gives (02, T-09): the step numbers in their order, or a refusal with none.
-- Definitions only.
use Rattle.std.specs.Prelude.{List, map, ℕ, length, replicate}
use Rattle.net.specs.Limits.{max_live}
use Rattle.net.specs.Journal.{transition}
use Rattle.marking.specs.Form.{padWith}
use Rattle.net.specs.declared.Verdict.TheVariants.{Accepted, Refused}
use Rattle.listing.specs.declared.Listing.{Listing}

-- step numbers in their order, with their number; every entry after them holds 0
abbrev pub listing_of : List ℕ → Listing
listing_of ns = record { answer = Accepted; count = length ns; transitions = padWith (transition 0) max_live (map transition ns) }

-- a refused call: the empty list
unfoldable pub no_listing : ℕ → Listing
no_listing n = record { answer = Refused n; count = 0; transitions = replicate max_live (transition 0) }
