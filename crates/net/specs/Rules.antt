-- What the sheet's rules ask of the net that it describes (01, the sheet, and the refusals 5 to 9), each rule a test.
-- Definitions only. The limits on counts are in Limits, and tested in sheet_head and sheet_arcs; format reads the bytes.
use Rattle.std.specs.Prelude.{Bool, ◌&&◌, List, ℕ, eqb, ltb, length}
use Rattle.net.specs.Tests.{all, any}
use Rattle.net.specs.Sorted.{ascends}
use Rattle.net.specs.Net.{Arcs, Marking, Net, less_bond, place}
use Rattle.net.specs.declared.Bond.{Bond}
use Rattle.net.specs.declared.Entry.{Entry}

-- Start places (5): one for each base, and each a place that is there.
abbrev pub start_places_rule : ℕ → ℕ → List ℕ → Bool
start_places_rule places bases ps = eqb (length ps) bases && all (λ (x : ℕ). ltb x places) ps

-- Start couplings (6): strictly ascending as pairs; each of bases p < q that are there and are in one place.
abbrev pub start_bond_rule : ℕ → Marking → Bond → Bool
start_bond_rule bases s b = ltb b.lo b.hi && (ltb b.hi bases && eqb (place s b.lo) (place s b.hi))

abbrev pub start_bonds_rule : ℕ → Marking → Bool
start_bonds_rule bases s = ascends less_bond s.bonds && all (start_bond_rule bases s) s.bonds

-- Entries (8): bases and places that are there, bases strictly ascending.
abbrev pub entry_rule : ℕ → ℕ → Entry → Bool
entry_rule places bases e = ltb e.base bases && (ltb e.from places && ltb e.to places)

abbrev pub entries_rule : ℕ → ℕ → List Entry → Bool
entries_rule places bases es = all (entry_rule places bases) es && ascends (λ (e d : Entry). ltb e.base d.base) es

-- A transition's bonds (9): p < q, of bases among the entries which agree on `side` (the in-place for an in-coupling,
-- the out-place for an out-coupling); strictly ascending as pairs.
abbrev pub joins : (Entry → ℕ) → List Entry → Bond → Bool
joins side es b = ltb b.lo b.hi
    && any (λ (e : Entry). eqb e.base b.lo && any (λ (d : Entry). eqb d.base b.hi && eqb (side e) (side d)) es) es

abbrev pub bonds_rule : (Entry → ℕ) → List Entry → List Bond → Bool
bonds_rule side es bs = ascends less_bond bs && all (joins side es) bs

-- An in-coupling need not be an out-coupling (02, T-07).
abbrev pub arcs_bonds_rule : Arcs → Bool
arcs_bonds_rule t = bonds_rule (λ (e : Entry). e.from) t.entries t.in_bonds && bonds_rule (λ (e : Entry). e.to) t.entries t.out_bonds

-- A transition: at least one entry (7), then 8, then 9.
abbrev pub arcs_rule : ℕ → ℕ → Arcs → Bool
arcs_rule places bases t = ltb 0 (length t.entries) && (entries_rule places bases t.entries && arcs_bonds_rule t)

-- All that the rules promise of a net.
abbrev pub net_rule : Net → Bool
net_rule net =
    start_places_rule net.places net.bases net.start.places
    && (start_bonds_rule net.bases net.start && all (arcs_rule net.places net.bases) net.transitions)
