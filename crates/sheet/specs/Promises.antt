-- What holds of an accepted sheet, as later readers want it: limits, and every number within its count.
-- Definitions only; proofs/Accepted has the theorem.
use Rattle.std.specs.Prelude.{◌≡◌, true, ℕ, ◌*◌, ◌<◌, ◌≤◌, List, length}
use Rattle.causal.specs.Lists.{Mem}
use Rattle.net.specs.Limits.{max_sheet, max_places, max_bases, max_transitions, max_entries}
use Rattle.net.specs.Sorted.{ascends}
use Rattle.net.specs.Net.{Arcs, less_bond, written, place}
use Rattle.net.specs.Rules.{net_rule}
use Rattle.net.specs.declared.Transition.{Transition}
use Rattle.net.specs.declared.Bond.{Bond}
use Rattle.net.specs.declared.Entry.{Entry}
use Rattle.format.specs.Bytes.{bond_width}
use Rattle.format.specs.Parts.{places_of, bases_of, transitions_of, transition_bytes}
use Rattle.format.specs.Arcs.{arcs_in}
use Rattle.format.specs.NetOf.{start_marking, net_of}

-- a count that is 1 to max
abbrev pub Within : ℕ → ℕ → Type 0
Within n max = (0 < n) × (n ≤ max)

-- a bond of bases p < q that are there
abbrev pub BondWithin : ℕ → Bond → Type 0
BondWithin bases b = (b.lo < b.hi) × (b.hi < bases)

-- the arcs of a transition
abbrev pub arcs_at : List ℕ → Transition → Arcs
arcs_at s t = arcs_in (transition_bytes s t)

-- of a transition's arcs: at least one entry and at most as many as may be; every number within its count
pub record GoodArcs (places bases : ℕ) (t : Arcs) : Type 0 where
  pub count : Within (length t.entries) max_entries
  pub entry : (e : Entry) → Mem e t.entries → (e.base < bases) × (e.from < places) × (e.to < places)
  pub in_bond : (b : Bond) → Mem b t.in_bonds → BondWithin bases b
  pub out_bond : (b : Bond) → Mem b t.out_bonds → BondWithin bases b

pub record Promised (s : List ℕ) : Type 0 where
  -- the rules of the net that the sheet describes, all of them
  pub rule : net_rule (net_of s) ≡ true
  -- the limits
  pub size : length s ≤ max_sheet
  pub places : Within (places_of s) max_places
  pub bases : Within (bases_of s) max_bases
  pub transitions : Within (transitions_of s) max_transitions
  -- every bond that can occur is written, each in bytes of its own (02, T-10)
  pub bonds : bond_width * length (written (net_of s)) ≤ length s
  -- the start
  pub start_size : length (start_marking s).places ≡ bases_of s
  pub start_place : (p : ℕ) → p < bases_of s → place (start_marking s) p < places_of s
  pub start_order : ascends less_bond (start_marking s).bonds ≡ true
  pub start_bond : (b : Bond) → Mem b (start_marking s).bonds → BondWithin (bases_of s) b
  -- each transition
  pub arcs : (t : Transition) → t.0 < transitions_of s → GoodArcs (places_of s) (bases_of s) (arcs_at s t)
