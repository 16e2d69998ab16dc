-- That bases have one label exactly where bonds lead from one to the other, and what follows of connection.
-- Assumes nothing.
use mathlib.Core.Path.{◌≡◌, refl, sym, ◌∙◌, ap}
use mathlib.Core.Logic.{◌⊎◌, inl, inr}
use mathlib.Core.Bool.{Bool, true, false, or_comm}
use mathlib.Core.List.{List, [], ◌∷◌}
use Prim.Native.Nat.{ℕ}
use lib.Dec.{eqb}
use borrow.Author.Tests.{eqb-true, eq-eqb}
use Rattle.causal.specs.Lists.{Mem}
use Rattle.net.specs.Tests.{pick}
use Rattle.net.specs.Net.{bond, has_bond}
use Rattle.net.specs.Connection.{bonded, Leads, here, along, relabelled, labelling, label, connected}
use Rattle.net.specs.declared.Bond.{Bond}
use Rattle.net.proofs.Tests.{same_test, or-e, or_l, pick_same}
use Rattle.net.proofs.Bonds.{has-mem, mem-has}

-- ---- chains

pub bonded-sym : (bs : List Bond) (p q : ℕ) → bonded bs p q ≡ bonded bs q p
bonded-sym bs p q = or_comm (has_bond (bond p q) bs) (has_bond (bond q p) bs)

pub leads-trans : {bs : List Bond} {p q r : ℕ} → Leads bs p q → Leads bs q r → Leads bs p r
leads-trans {bs} {r = r} (here e) k = rw e k
leads-trans (along a l) k = along a (leads-trans l k)

pub leads-sym : {bs : List Bond} {p q : ℕ} → Leads bs p q → Leads bs q p
leads-sym (here e) = here (sym e)
leads-sym {bs} (along {p = p} {r = r} a l) = leads-trans (leads-sym l) (along (bonded-sym bs r p ∙ a) (here refl))

-- ---- labels

-- bases with one label keep having one
labelling-same : (bs : List Bond) (f : ℕ → ℕ) (p q : ℕ) → f p ≡ f q → labelling f bs p ≡ labelling f bs q
labelling-same [] f p q e = e
labelling-same (b ∷ bs) f p q e = labelling-same bs (relabelled f b) p q (ap (λ (x : ℕ). pick (eqb x (f b.hi)) (f b.lo) x) e)

-- a bond's ends get one label
labelling-bond : (bs : List Bond) (f : ℕ → ℕ) (b : Bond) → Mem b bs → labelling f bs b.lo ≡ labelling f bs b.hi
labelling-bond [] f b h = absurd h
labelling-bond (c ∷ bs) f b (inl e) = labelling-same bs (relabelled f c) b.lo b.hi
    (rw (e, eq-eqb (f c.hi) (f c.hi) refl) (pick_same (eqb (f c.lo) (f c.hi)) (f c.lo)))
labelling-bond (c ∷ bs) f b (inr h) = labelling-bond bs (relabelled f c) b h

pub leads-label : {bs : List Bond} {p q : ℕ} → Leads bs p q → label bs p ≡ label bs q
leads-label {bs} (here e) = ap (label bs) e
leads-label {bs} (along {p = p} {r = r} a l) = go (or-e (has_bond (bond p r) bs) (has_bond (bond r p) bs) a) ∙ leads-label l
  where
    go : (has_bond (bond p r) bs ≡ true) ⊎ (has_bond (bond r p) bs ≡ true) → label bs p ≡ label bs r
    go (inl h) = labelling-bond bs (λ x. x) (bond p r) (has-mem bs (bond p r) h)
    go (inr h) = sym (labelling-bond bs (λ x. x) (bond r p) (has-mem bs (bond r p) h))

-- Where one label means a chain in cs, and the bonds of bs are chains in cs, one label after bs means a chain in cs.
module _ (cs : List Bond) where
  joined-leads : (b : Bond) → Leads cs b.lo b.hi → (f : ℕ → ℕ) → ((p q : ℕ) → f p ≡ f q → Leads cs p q) → (p q : ℕ) → relabelled f b p ≡ relabelled f b q → Leads cs p q
  joined-leads b edge f ih p q d = go (eqb (f p) (f b.hi)) (eqb (f q) (f b.hi)) refl refl d
    where
      go : (x y : Bool) → eqb (f p) (f b.hi) ≡ x → eqb (f q) (f b.hi) ≡ y → pick x (f b.lo) (f p) ≡ pick y (f b.lo) (f q) → Leads cs p q
      go true true u v e = ih p q (eqb-true (f p) (f b.hi) u ∙ sym (eqb-true (f q) (f b.hi) v))
      go true false u v e = leads-trans (ih p b.hi (eqb-true (f p) (f b.hi) u)) (leads-trans (leads-sym edge) (ih b.lo q e))
      go false true u v e = leads-trans (ih p b.lo e) (leads-trans edge (ih b.hi q (sym (eqb-true (f q) (f b.hi) v))))
      go false false u v e = ih p q e

  labelling-leads : (bs : List Bond) → ((b : Bond) → Mem b bs → Leads cs b.lo b.hi) → (f : ℕ → ℕ) → ((p q : ℕ) → f p ≡ f q → Leads cs p q)
      → (p q : ℕ) → labelling f bs p ≡ labelling f bs q → Leads cs p q
  labelling-leads [] edges f ih p q e = ih p q e
  labelling-leads (b ∷ bs) edges f ih p q e =
      labelling-leads bs (λ c h. edges c (inr h)) (relabelled f b) (joined-leads b (edges b (inl refl)) f ih) p q e

pub bond-leads : (bs : List Bond) (b : Bond) → has_bond b bs ≡ true → Leads bs b.lo b.hi
bond-leads bs b h = along (or_l (has_bond b bs) (has_bond (bond b.hi b.lo) bs) h) (here refl)

pub label-leads : (bs : List Bond) (p q : ℕ) → label bs p ≡ label bs q → Leads bs p q
label-leads bs p q e = labelling-leads bs bs (λ b h. bond-leads bs b (mem-has bs b h)) (λ x. x) (λ x y d. here d) p q e

-- ---- the labels decide connection

pub connected-leads : (bs : List Bond) (p q : ℕ) → connected bs p q ≡ true → Leads bs p q
connected-leads bs p q h = label-leads bs p q (eqb-true (label bs p) (label bs q) h)

pub leads-connected : (bs : List Bond) (p q : ℕ) → Leads bs p q → connected bs p q ≡ true
leads-connected bs p q l = eq-eqb (label bs p) (label bs q) (leads-label l)

-- ---- a set of bases that two lists of bonds see alike, and that is closed under the first

module _ (m : ℕ → Bool) (bs cs : List Bond) (closed : (p q : ℕ) → m p ≡ true → bonded bs p q ≡ true → m q ≡ true)
    (alike : (p q : ℕ) → m p ≡ true → bonded bs p q ≡ bonded cs p q) where
  pub walk : {p q : ℕ} → Leads bs p q → m p ≡ true → (m q ≡ true) × Leads cs p q
  walk (here e) h = (rw e at h, here e)
  walk (along {p = p} {r = r} a l) h =
      let (k, c) = walk l (closed p r h a) in
      (k, along (sym (alike p r h) ∙ a) c)

  pub walk-back : {p q : ℕ} → Leads cs p q → m p ≡ true → Leads bs p q
  walk-back (here e) h = here e
  walk-back (along {p = p} {r = r} a l) h =
      let a' : bonded bs p r ≡ true = alike p r h ∙ a in
      along a' (walk-back l (closed p r h a'))

  pub connected-alike : (p q : ℕ) → m p ≡ true → connected bs p q ≡ connected cs p q
  connected-alike p q h = same_test (connected bs p q) (connected cs p q) (λ e. leads-connected cs p q (walk (connected-leads bs p q e) h).1) (λ e. leads-connected bs p q (walk-back (connected-leads cs p q e) h))
