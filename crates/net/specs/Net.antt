-- The net that a sheet describes (01, the sheet): places, bases, bonds, transitions, the start.
-- Definitions only. Bonds and entries are the structs of src/lib.rt.
use Rattle.std.specs.Prelude.{Bool, ◌&&◌, ◌||◌, List, [], ◌∷◌, ◌++◌, ℕ, eqb, ltb, get_or}
use Rattle.net.specs.Sorted.{has}
use Rattle.net.specs.declared.Bond.{Bond}
use Rattle.net.specs.declared.Entry.{Entry}
use Rattle.net.specs.declared.Transition.{Transition}

-- The bond of the bases p and q (01: a coupling of two parts).
abbrev pub bond : ℕ → ℕ → Bond
bond p q = record { lo = p; hi = q }

abbrev pub same_bond : Bond → Bond → Bool
same_bond b c = eqb b.lo c.lo && eqb b.hi c.hi

-- bonds are ordered as pairs
abbrev pub less_bond : Bond → Bond → Bool
less_bond b c = ltb b.lo c.lo || (eqb b.lo c.lo && ltb b.hi c.hi)

abbrev pub has_bond : Bond → List Bond → Bool
has_bond = has same_bond

-- What a transition's arcs carry (01: a step): the bases that it takes and puts, the bonds that it needs, the bonds
-- that are there after it (in-couplings, out-couplings).
pub record Arcs : Type 0 where
  pub entries : List Entry
  pub in_bonds : List Bond
  pub out_bonds : List Bond

-- Where each base is, and which bonds there are: a place for each base, and the bonds in ascending order.
pub record Marking : Type 0 where
  pub places : List ℕ
  pub bonds : List Bond

-- How many places and bases there are, the transitions by number, the start places and start couplings.
pub record Net : Type 0 where
  pub places : ℕ
  pub bases : ℕ
  pub transitions : List Arcs
  pub start : Marking

abbrev pub no_arcs : Arcs
no_arcs = record { entries = []; in_bonds = []; out_bonds = [] }

-- the arcs of a transition; none where its number is not on the sheet
abbrev pub arcs_of : Net → Transition → Arcs
arcs_of net t = get_or net.transitions t.0 no_arcs

-- Every bond that the net writes: those of the start, then those of each transition (02, T-10: no other can occur).
abbrev pub arcs_bonds : Arcs → List Bond
arcs_bonds t = t.in_bonds ++ t.out_bonds

abbrev pub all_bonds : List Arcs → List Bond
all_bonds [] = []
all_bonds (t ∷ ts) = arcs_bonds t ++ all_bonds ts

abbrev pub written : Net → List Bond
written net = net.start.bonds ++ all_bonds net.transitions

-- the place of a base
abbrev pub place : Marking → ℕ → ℕ
place s p = get_or s.places p 0
