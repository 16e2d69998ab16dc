-- Listings on sheet B, worked out by hand: step 2 moves part 1 alone, and steps 0 and 1 share parts 0, 2 and 3.
-- Assumes nothing.
use mathlib.Core.Path.{◌≡◌, refl}
use mathlib.Core.List.{List, [], ◌∷◌}
use Prim.Native.Nat.{ℕ}
use Rattle.net.specs.Journal.{begin, play}
use Rattle.net.specs.Cases.{net_b, fire_of}
use Rattle.net.proofs.Keys.{up-distinct}
use Rattle.net.proofs.Journal.{played}
use Rattle.net.proofs.Cases.{net_b-rule}
use Rattle.listing.specs.First.{FirstOf, listing}
use Rattle.listing.proofs.First.{listing-first}
use Rattle.listing.proofs.Turns.{rivals}

pub listed-in-order : listing (play net_b (fire_of 0 ∷ fire_of 1 ∷ fire_of 2 ∷ []) (begin net_b)).lines ≡ 0 ∷ 1 ∷ 2 ∷ []
listed-in-order = refl

pub listed-moved-up : listing (play net_b (fire_of 2 ∷ fire_of 0 ∷ fire_of 1 ∷ []) (begin net_b)).lines ≡ 0 ∷ 1 ∷ 2 ∷ []
listed-moved-up = refl

-- What the laws assume of lines holds of the lines that any commands leave on sheet B.
pub first-of-B : (cs : List (List ℕ)) → FirstOf (play net_b cs (begin net_b)).lines (listing (play net_b cs (begin net_b)).lines)
first-of-B cs = listing-first (play net_b cs (begin net_b)).lines (up-distinct (play net_b cs (begin net_b)).lines (played net_b net_b-rule cs).up) (rivals net_b net_b-rule (play net_b cs (begin net_b)) (played net_b net_b-rule cs))
