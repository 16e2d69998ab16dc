-- Firing a transition and taking it back, on markings (01, firing and taking back, with 02, T-07; refusals 13 to 16).
-- Definitions only. A set of bases is a list of flags, one for each base; n is the number of bases.
use Rattle.std.specs.Prelude.{◌≡◌, Bool, false, not, ◌&&◌, List, [], ◌∷◌, ℕ, ◌<◌, eqb, get_or, length}
use Rattle.net.specs.Tests.{pick, all, any, keep, table}
use Rattle.net.specs.Sorted.{puts}
use Rattle.net.specs.Net.{Arcs, Marking, Net, same_bond, less_bond, has_bond, place, arcs_of}
use Rattle.net.specs.Connection.{connected}
use Rattle.net.specs.declared.Bond.{Bond}
use Rattle.net.specs.declared.Entry.{Entry}
use Rattle.net.specs.declared.Transition.{Transition}

-- the base p is in the set
abbrev pub in_set : List Bool → ℕ → Bool
in_set m p = get_or m p false

-- The moved bases: the entries' bases and every base connected to one of them, just before the firing.
abbrev pub moves : List Bond → List Entry → ℕ → Bool
moves bs es p = any (λ (e : Entry). connected bs e.base p) es

abbrev pub moved : ℕ → Arcs → Marking → List Bool
moved n t s = table n (moves s.bonds t.entries)

-- An in-bond that is no out-bond: the firing removes it, and taking back puts it in again (02, T-07).
abbrev pub broken_bond : Arcs → Bond → Bool
broken_bond t b = has_bond b t.in_bonds && not (has_bond b t.out_bonds)

-- every in-bond is an out-bond: the firing breaks nothing
abbrev pub breaks_none : Arcs → Bool
breaks_none t = all (λ (b : Bond). has_bond b t.out_bonds) t.in_bonds

-- The bonds after the firing: the broken ones are removed, then the out-bonds added. Refusal 16 and the out-places go by
-- what these connect (02, T-07).
abbrev pub bonds_seen : Arcs → List Bond → List Bond
bonds_seen t bs = puts same_bond less_bond t.out_bonds (keep (λ (b : Bond). not (broken_bond t b)) bs)

-- Refusal 13: an entry's base is not at its in-place.
abbrev pub misplaced : Arcs → Marking → Bool
misplaced t s = any (λ (e : Entry). not (eqb (place s e.base) e.from)) t.entries

-- Refusal 14: an in-bond is absent.
abbrev pub bond_absent : Arcs → Marking → Bool
bond_absent t s = any (λ (b : Bond). not (has_bond b s.bonds)) t.in_bonds

-- Refusal 15: an out-bond that is no in-bond is present already.
abbrev pub bond_present : Arcs → Marking → Bool
bond_present t s = any (λ (b : Bond). not (has_bond b t.in_bonds) && has_bond b s.bonds) t.out_bonds

-- two entries with different out-places have bases that the bonds connect
abbrev pub torn_with : Arcs → List Bond → Bool
torn_with t bs = any (λ (e : Entry). any (λ (d : Entry). connected bs e.base d.base && not (eqb e.to d.to)) t.entries) t.entries

-- Refusal 16: so it is of the bonds after the firing.
abbrev pub torn_apart : Arcs → Marking → Bool
torn_apart t s = torn_with t (bonds_seen t s.bonds)

-- Where p goes: the place on `side` of an entry to which it is connected; its old place where there is none.
abbrev pub sent : (Entry → ℕ) → List Bond → List Entry → ℕ → ℕ → ℕ
sent side bs [] p old = old
sent side bs (e ∷ es) p old = pick (connected bs e.base p) (side e) (sent side bs es p old)

-- Firing: the bonds change, and each moved base goes to the out-place of the entries to which it is connected then.
abbrev pub fire : ℕ → Arcs → Marking → Marking
fire n t s = record {
  places = table n (λ p. sent (λ (e : Entry). e.to) (bonds_seen t s.bonds) t.entries p (place s p));
  bonds = bonds_seen t s.bonds;
}

-- An out-bond that is no in-bond: what the firing made, and taking back removes.
abbrev pub new_bond : Arcs → Bond → Bool
new_bond t b = has_bond b t.out_bonds && not (has_bond b t.in_bonds)

-- The bonds after taking back: the new ones are removed, then the broken ones put in again (02, T-07).
abbrev pub bonds_back : Arcs → List Bond → List Bond
bonds_back t bs = puts same_bond less_bond (keep (broken_bond t) t.in_bonds) (keep (λ (b : Bond). not (new_bond t b)) bs)

-- Taking back the firing that moved m: the bonds change back, and each base of m goes to the in-place of the entries to
-- which it is connected then.
abbrev pub undo : ℕ → Arcs → List Bool → Marking → Marking
undo n t m s =
    let bs = bonds_back t s.bonds in
    record {
      places = table n (λ p. pick (in_set m p) (sent (λ (e : Entry). e.from) bs t.entries p (place s p)) (place s p));
      bonds = bs;
    }

-- The transition t, fired in s, is accepted (it is on the sheet, and none of 13 to 16 holds), moves m and gives z.
pub record Fires (net : Net) (s : Marking) (t : Transition) (m : List Bool) (z : Marking) : Type 0 where
  pub listed : t.0 < length net.transitions
  pub placed : misplaced (arcs_of net t) s ≡ false
  pub present : bond_absent (arcs_of net t) s ≡ false
  pub absent : bond_present (arcs_of net t) s ≡ false
  pub together : torn_apart (arcs_of net t) s ≡ false
  pub moves_m : m ≡ moved net.bases (arcs_of net t) s
  pub gives : z ≡ fire net.bases (arcs_of net t) s
