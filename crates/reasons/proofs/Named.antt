-- What a reason says is so: where the journal's answer to a command is the refusal of that number, what the reason names is
-- on its list and holds the condition. Assumes nothing.
use mathlib.Core.Path.{◌≡◌, refl, ap}
use mathlib.Core.Bool.{Bool, true, false, not, ◌&&◌, ◌||◌}
use mathlib.Core.List.{List, [], ◌∷◌}
use Prim.Native.Nat.{ℕ, suc, ◌<◌}
use native.Mathlib.Omega.{arith}
use lib.Dec.{eqb}
use lib.ListN.{length, get_or, take}
use lib.Seq.{get_or-take}
use borrow.Author.Tests.{eq-eqb}
use Rattle.causal.specs.Lists.{Mem}
use Rattle.causal.proofs.Tests.{both}
use Rattle.net.specs.Tests.{pick, any, first_at}
use Rattle.net.specs.Net.{Arcs, Marking, Net, arcs_of}
use Rattle.net.specs.Firing.{misplaced, bond_absent, bond_present, torn_apart}
use Rattle.net.specs.Checks.{Check, first, clear}
use Rattle.net.specs.Journal.{Journal, Answer, fired, undone, refused, line_of, built_on, kind_of, fire_checks, undo_checks, transition_named, key_named, checks, fire_reply, undo_reply, refuse, act}
use Rattle.net.specs.declared.Entry.{Entry}
use Rattle.reasons.specs.Reasons.{away_from, absent_from, present_in, torn_from, has_partner}
use Rattle.net.proofs.Firsts.{first_on, first_holds, first_cong}

-- The i-th of a list is there, and passes the test.
pub record Named {X : Type 0} (f : X → Bool) (l : List X) (i : ℕ) : Type 0 where
  pub on : i < length l
  pub holds : (d : X) → f (get_or l i d) ≡ true

named : {X : Type 0} (f : X → Bool) (l : List X) → any f l ≡ true → Named f l (first_at f l)
named f l h = record { on = first_on f l h; holds = λ d. first_holds f l d h }

-- ---- the condition of the number that was answered

-- one of the checks has that number and holds
abbrev holds_by : ℕ → Check → Bool
holds_by n c = eqb c.number n && c.holds

first_by : (cs : List Check) (n : ℕ) → first cs ≡ suc n → any (holds_by (suc n)) cs ≡ true
first_by [] n h = absurd (let z : ⊥ = omega arith in z)
first_by (c ∷ cs) n h = go c.holds h (first_by cs n)
  where
    go : (b : Bool) → pick b c.number (first cs) ≡ suc n → (first cs ≡ suc n → any (holds_by (suc n)) cs ≡ true) → (eqb c.number (suc n) && b || any (holds_by (suc n)) cs) ≡ true
    go true e ih = rw (eq-eqb c.number (suc n) e)
    go false e ih = skip (eqb c.number (suc n)) (ih e)
      where
        skip : (a : Bool) → any (holds_by (suc n)) cs ≡ true → (a && false || any (holds_by (suc n)) cs) ≡ true
        skip true k = k
        skip false k = k

abbrev number_in : Answer → ℕ
number_in (fired k) = 0
number_in (undone k) = 0
number_in (refused n) = n

only : (b : Bool) → (b || false) ≡ true → b ≡ true
only true h = refl
only false h = h

module _ (net : Net) (j : Journal) (c : List ℕ) where
  abbrev t : Arcs
  t = arcs_of net (transition_named c)

  abbrev s : Marking
  s = j.marking

  refused-first : (n : ℕ) → (act net j c).answer ≡ refused (suc n) → first (checks net j c) ≡ suc n
  refused-first n e = go (clear (checks net j c)) (eqb (kind_of c) 1) (ap number_in e)
    where
      go : (a b : Bool) → number_in (pick a (pick b (fire_reply net j (transition_named c)) (undo_reply net j (key_named j c))) (refuse j (first (checks net j c)))).answer ≡ suc n
          → first (checks net j c) ≡ suc n
      go true true k = absurd (let z : ⊥ = omega arith in z)
      go true false k = absurd (let z : ⊥ = omega arith in z)
      go false b k = k

  -- the check of that number holds
  kind-by : (n : ℕ) → (act net j c).answer ≡ refused (suc n) → any (holds_by (suc n)) (checks net j c) ≡ true
  kind-by n e = first_by (checks net j c) n (refused-first n e)

  -- what each of the two lists says, where the kind decides which it is
  by_kind : (n : ℕ) (x : Bool) → (any (holds_by n) (fire_checks net j (transition_named c)) ≡ true → x ≡ true)
      → (any (holds_by n) (undo_checks j (key_named j c)) ≡ true → x ≡ true) → (b : Bool)
      → any (holds_by n) (pick b (fire_checks net j (transition_named c)) (undo_checks j (key_named j c))) ≡ true → x ≡ true
  by_kind n x f g true h = f h
  by_kind n x f g false h = g h

  -- no check of that list has the number
  none : {x : Bool} → false ≡ true → x ≡ true
  none h = both false h refl

  refused-13 : (act net j c).answer ≡ refused 13 → misplaced t s ≡ true
  refused-13 e = by_kind 13 (misplaced t s) (only (misplaced t s)) none (eqb (kind_of c) 1) (kind-by 12 e)

  refused-14 : (act net j c).answer ≡ refused 14 → bond_absent t s ≡ true
  refused-14 e = by_kind 14 (bond_absent t s) (only (bond_absent t s)) none (eqb (kind_of c) 1) (kind-by 13 e)

  refused-15 : (act net j c).answer ≡ refused 15 → bond_present t s ≡ true
  refused-15 e = by_kind 15 (bond_present t s) (only (bond_present t s)) none (eqb (kind_of c) 1) (kind-by 14 e)

  refused-16 : (act net j c).answer ≡ refused 16 → torn_apart t s ≡ true
  refused-16 e = by_kind 16 (torn_apart t s) (only (torn_apart t s)) none (eqb (kind_of c) 1) (kind-by 15 e)

  -- 20: proofs/Built goes on from here
  pub refused-20 : (act net j c).answer ≡ refused 20 → built_on j.lines (line_of (key_named j c) j.lines) ≡ true
  refused-20 e =
      let b : Bool = built_on j.lines (line_of (key_named j c) j.lines) in
      by_kind 20 b none (only b) (eqb (kind_of c) 1) (kind-by 19 e)

  -- 13: the entry's base is not at its in-place
  pub away-holds : (act net j c).answer ≡ refused 13 → Named (away_from s.places) t.entries (first_at (away_from s.places) t.entries)
  away-holds e = named (away_from s.places) t.entries (refused-13 e)

  -- 14: the in-coupling is not there
  pub absent-holds : (act net j c).answer ≡ refused 14 → Named (absent_from s.bonds) t.in_bonds (first_at (absent_from s.bonds) t.in_bonds)
  absent-holds e = named (absent_from s.bonds) t.in_bonds (refused-14 e)

  -- 15: the out-coupling is no in-coupling, and is there
  pub present-holds : (act net j c).answer ≡ refused 15
      → Named (present_in t.in_bonds s.bonds) t.out_bonds (first_at (present_in t.in_bonds s.bonds) t.out_bonds)
  present-holds e = named (present_in t.in_bonds s.bonds) t.out_bonds (refused-15 e)

  -- 16: the entry has a partner, and the partner named hangs together with it and goes elsewhere
  pub torn-holds : (act net j c).answer ≡ refused 16 → Named (has_partner t s) t.entries (first_at (has_partner t s) t.entries)
      × ((d : Entry) → let e = get_or t.entries (first_at (has_partner t s) t.entries) d in Named (torn_from t s e) t.entries (first_at (torn_from t s e) t.entries))
  torn-holds h =
      let n = named (has_partner t s) t.entries (refused-16 h) in
      (n, λ d. named (torn_from t s (get_or t.entries (first_at (has_partner t s) t.entries) d)) t.entries (n.holds d))

-- 13, with the places as they lie: entries are of the first n bases
pub away-here : (n : ℕ) (places : List ℕ) (es : List Entry) → ((e : Entry) → Mem e es → e.base < n) → first_at (away_from (take n places)) es ≡ first_at (away_from places) es
away-here n places es h = first_cong (away_from (take n places)) (away_from places) es (λ e m. ap (λ (x : ℕ). not (eqb x e.from)) (get_or-take n places e.base 0 (h e m)))
