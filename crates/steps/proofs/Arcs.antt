-- The arcs of a transition of the net are what its bytes in the sheet say.
-- Assumes nothing.
use mathlib.Core.Path.{◌≡◌, ap}
use mathlib.Core.List.{List, []}
use Prim.Native.Nat.{ℕ, ◌≤◌}
use lib.ListN.{length}
use borrow.Author.Tests.{le-ltb}
use Rattle.net.specs.Net.{no_arcs, arcs_of}
use Rattle.net.specs.Journal.{transition}
use Rattle.net.specs.declared.Transition.{Transition}
use Rattle.net.proofs.Tables.{length-table, get_d-table-all}
use Rattle.format.specs.Parts.{transitions_of, transition_bytes}
use Rattle.format.specs.Arcs.{arcs_in}
use Rattle.format.specs.NetOf.{net_of}

no_bytes : (s : List ℕ) (t : Transition) → transitions_of s ≤ t.0 → transition_bytes s t ≡ []
unfolding transition_bytes
no_bytes s t h = rw (le-ltb t.0 (transitions_of s) h)

pub arcs-of : (s : List ℕ) (t : Transition) → arcs_of (net_of s) t ≡ arcs_in (transition_bytes s t)
unfolding net_of
arcs-of s t = get_d-table-all (transitions_of s) (λ k. arcs_in (transition_bytes s (transition k))) no_arcs t.0 (λ h. ap arcs_in (no_bytes s t h))

-- how many transitions the net has
pub count-of : (s : List ℕ) → length (net_of s).transitions ≡ transitions_of s
unfolding net_of
count-of s = length-table (transitions_of s) (λ k. arcs_in (transition_bytes s (transition k)))
