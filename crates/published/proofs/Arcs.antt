-- What the sheet's rules give of a transition's arcs, beside `Fit`: one entry for each base, and one entry at least.
-- Assumes nothing.
use mathlib.Core.Path.{◌≡◌, refl, ap}
use mathlib.Core.Logic.{◌⊎◌, inl, inr}
use mathlib.Core.Bool.{Bool, true, ◌&&◌}
use mathlib.Core.List.{List, [], ◌∷◌}
use Prim.Native.Nat.{◌<◌}
use native.Mathlib.Omega.{arith}
use lib.Dec.{ltb}
use lib.ListN.{length}
use borrow.Author.Tests.{ltb-true}
use Rattle.causal.specs.Lists.{Mem}
use Rattle.net.specs.Tests.{all}
use Rattle.net.specs.Sorted.{ascends}
use Rattle.net.specs.Net.{Arcs, Net, no_arcs, arcs_of}
use Rattle.net.specs.Rules.{start_places_rule, start_bonds_rule, entry_rule, entries_rule, arcs_bonds_rule, arcs_rule, net_rule}
use Rattle.net.specs.declared.Entry.{Entry}
use Rattle.net.specs.declared.Transition.{Transition}
use Rattle.net.proofs.Tests.{and_l, and_r, all-at}

-- ---- one entry for each base

abbrev base_below : Entry → Entry → Bool
base_below e d = ltb e.base d.base

-- the bases ascend strictly
abbrev Climb : List Entry → Type 0
Climb [] = Unit {0}
Climb (e ∷ es) = ((d : Entry) → Mem d es → e.base < d.base) × Climb es

climbs : (es : List Entry) → ascends base_below es ≡ true → Climb es
climbs [] h = tt
climbs (e ∷ []) h = ((λ d m. absurd m), tt)
climbs (e ∷ d ∷ es) h =
    let a : e.base < d.base = ltb-true e.base d.base (and_l (base_below e d) _ h) in
    let u : Climb (d ∷ es) = climbs (d ∷ es) (and_r (base_below e d) _ h) in
    ((λ k m. go a u k m), u)
  where
    go : e.base < d.base → Climb (d ∷ es) → (k : Entry) → (k ≡ d) ⊎ Mem k es → e.base < k.base
    go a u k (inl q) = rw q a
    go a u k (inr m) = let b = u.0 k m in omega arith

one_entry : (es : List Entry) → Climb es → (e d : Entry) → Mem e es → Mem d es → e.base ≡ d.base → e ≡ d
one_entry [] c e d m n q = absurd m
one_entry (x ∷ es) c e d (inl m) (inl n) q = rw (m, n)
one_entry (x ∷ es) c e d (inl m) (inr n) q = let b = c.0 d n in let k : e.base ≡ x.base = ap (λ (y : Entry). y.base) m in absurd (let z : ⊥ = omega arith in z)
one_entry (x ∷ es) c e d (inr m) (inl n) q = let b = c.0 e m in let k : d.base ≡ x.base = ap (λ (y : Entry). y.base) n in absurd (let z : ⊥ = omega arith in z)
one_entry (x ∷ es) c e d (inr m) (inr n) q = one_entry es c.1 e d m n q

-- ---- a transition

module _ (net : Net) (t : Arcs) (h : arcs_rule net.places net.bases t ≡ true) where
  arcs-one : (e d : Entry) → Mem e t.entries → Mem d t.entries → e.base ≡ d.base → e ≡ d
  arcs-one =
      let rest : (entries_rule net.places net.bases t.entries && arcs_bonds_rule t) ≡ true = and_r (ltb 0 (length t.entries)) _ h in
      let order : ascends base_below t.entries ≡ true = and_r (all (entry_rule net.places net.bases) t.entries) _ (and_l _ (arcs_bonds_rule t) rest) in
      one_entry t.entries (climbs t.entries order)

  arcs-some : 0 < length t.entries
  arcs-some = ltb-true 0 (length t.entries) (and_l _ _ h)

-- ---- the net

module _ (net : Net) (ok : net_rule net ≡ true) where
  rule-of : (t : Transition) → t.0 < length net.transitions → arcs_rule net.places net.bases (arcs_of net t) ≡ true
  rule-of t h = all-at (arcs_rule net.places net.bases) net.transitions no_arcs t.0
      (and_r (start_bonds_rule net.bases net.start) _ (and_r (start_places_rule net.places net.bases net.start.places) _ ok)) h

  -- entries of one base are one
  pub one_each : (t : Transition) → t.0 < length net.transitions → (e d : Entry) → Mem e (arcs_of net t).entries → Mem d (arcs_of net t).entries → e.base ≡ d.base → e ≡ d
  one_each t h = arcs-one net (arcs_of net t) (rule-of t h)

  -- a transition has an entry
  pub some-entry : (t : Transition) → t.0 < length net.transitions → (e : Entry) × Mem e (arcs_of net t).entries
  some-entry t h = first (arcs_of net t).entries (arcs-some net (arcs_of net t) (rule-of t h))
    where
      first : (es : List Entry) → 0 < length es → (e : Entry) × Mem e es
      first [] k = absurd (let z : ⊥ = omega arith in z)
      first (e ∷ es) k = (e, inl refl)
