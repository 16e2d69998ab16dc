-- Fired anew in the order of the listing, the lines are each accepted, end in the same marking, and have the same listing (02, T-09).
-- Assumes that the net meets the sheet's rules.
use mathlib.Core.Path.{◌≡◌, refl, sym, ◌∙◌, ap}
use mathlib.Core.Bool.{true}
use mathlib.Core.List.{List, [], ◌∷◌}
use Prim.Native.Nat.{ℕ, suc}
use lib.ListN.{length}
use Rattle.causal.proofs.Reorderings.{swapped-reordering}
use Rattle.net.specs.Net.{Net}
use Rattle.net.specs.Rules.{net_rule}
use Rattle.net.specs.Firing.{in_set}
use Rattle.net.specs.Journal.{LiveLine, Journal, begin, play}
use Rattle.net.specs.Claims.{fire_commands, numbered}
use Rattle.net.proofs.Claimed.{Forward}
use Rattle.net.proofs.Keys.{up-distinct}
use Rattle.net.proofs.Journal.{Held}
use Rattle.net.proofs.Demand3.{held_forward}
use Rattle.listing.specs.First.{SerialsApart, ordered, listing}
use Rattle.listing.proofs.Ordered.{ordered-swapped}
use Rattle.listing.proofs.Alike.{listing-apart}
use Rattle.listing.proofs.Turns.{swapped-listing}

pub numbered-apart : (k : ℕ) (ls : List LiveLine) → SerialsApart ls (numbered k ls)
numbered-apart k [] = tt
numbered-apart k (l ∷ ls) = (refl, refl, numbered-apart (suc k) ls)

module _ (net : Net) (ok : net_rule net ≡ true) (j : Journal) (H : Held net j) where
  pub relisted : listing (numbered 0 (ordered (length j.lines) j.lines)) ≡ listing j.lines
  relisted =
      sym (swapped-listing net ok j H (ordered (length j.lines) j.lines) (ordered-swapped j.lines)
      ∙ listing-apart (ordered (length j.lines) j.lines) (numbered 0 (ordered (length j.lines) j.lines)) (numbered-apart 0 (ordered (length j.lines) j.lines)))

  pub ordered-forward : Forward net (ordered (length j.lines) j.lines) j.marking
  ordered-forward = held_forward net ok j H (ordered (length j.lines) j.lines) (swapped-reordering in_set (ordered-swapped j.lines) (up-distinct j.lines H.up))

  -- the journal that is fired anew has the same listing
  pub relisted-journal : listing (play net (fire_commands (ordered (length j.lines) j.lines)) (begin net)).lines ≡ listing j.lines
  relisted-journal = ap (λ (i : Journal). listing i.lines) ordered-forward.journal ∙ relisted
