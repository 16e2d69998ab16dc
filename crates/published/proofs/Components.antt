-- con(a, C) where C has just the bonds of a list: they lead from a to the item. And con(a, M(x)) on a good marking: a is at x
-- too, so that a path never leaves its place. Assumes nothing.
use mathlib.Core.Path.{◌≡◌, refl, sym, ◌∙◌, ap}
use mathlib.Core.Logic.{◌⊎◌, inl, inr}
use mathlib.Core.Bool.{true, false}
use mathlib.Core.List.{List, [], ◌∷◌}
use Prim.Native.Nat.{ℕ, ◌<◌}
use native.Mathlib.Omega.{arith}
use Rattle.causal.specs.Lists.{Mem}
use Rattle.causal.proofs.Tests.{both}
use Rattle.net.specs.Net.{Marking, Net, has_bond, place, no_arcs}
use Rattle.net.specs.Net as N
use Rattle.net.specs.Connection.{bonded, Leads, here, along}
use Rattle.net.specs.Marking.{Good}
use Rattle.net.specs.declared.Bond.{Bond}
use Rattle.net.proofs.Tests.{or-e, or_l, or_r}
use Rattle.net.proofs.Connection.{leads-trans, bond-leads}
use Rattle.net.proofs.Moves as W
use Rattle.net.proofs.Moves.{Fit}
use Rattle.published.specs.Sets.{Item, base, bond, Items, Between}
use Rattle.published.specs.States.{Path, Con}
use Rattle.published.specs.Sheets.{anchor, Allowed, Present, marks_of}

-- ---- larger sets

path-more : (C D : Items) → ((i : Item) → C i → D i) → (w : List Bond) (a : ℕ) → Path a w C → Path a w D
path-more C D f [] a p = tt
path-more C D f (β ∷ w) a (c, j, u, v, p) = (c, j, f (bond β) u, f (base c) v, path-more C D f w c p)

pub con-more : (C D : Items) → ((i : Item) → C i → D i) → (a : ℕ) (i : Item) → Con a C i → Con a D i
con-more C D f a i (inl (u, e)) = inl (f (base a) u, e)
con-more C D f a i (inr (w, p, β, m, o)) = inr (w, path-more C D f w a p, β, m, o)

-- ---- bonds between two bases

between-bonded : (bs : List Bond) (a c : ℕ) (β : Bond) → Between a c β → has_bond β bs ≡ true → bonded bs a c ≡ true
between-bonded bs a c β (inl (p, q)) h =
    let e : β ≡ N.bond a c = λ i. record { lo = p i; hi = q i } in
    or_l (has_bond (N.bond a c) bs) (has_bond (N.bond c a) bs) (rw e at h)
between-bonded bs a c β (inr (p, q)) h =
    let e : β ≡ N.bond c a = λ i. record { lo = p i; hi = q i } in
    or_r (has_bond (N.bond a c) bs) (has_bond (N.bond c a) bs) (rw e at h)

bonded-between : (bs : List Bond) (a c : ℕ) → bonded bs a c ≡ true → (β : Bond) × (has_bond β bs ≡ true) × Between a c β
bonded-between bs a c h = go (or-e (has_bond (N.bond a c) bs) (has_bond (N.bond c a) bs) h)
  where
    go : (has_bond (N.bond a c) bs ≡ true) ⊎ (has_bond (N.bond c a) bs ≡ true) → (β : Bond) × (has_bond β bs ≡ true) × Between a c β
    go (inl k) = (N.bond a c, k, inl (refl, refl))
    go (inr k) = (N.bond c a, k, inr (refl, refl))

-- the first base of a bond between a and c
first-leads : (bs : List Bond) (a c : ℕ) (β : Bond) → Between a c β → has_bond β bs ≡ true → Leads bs a β.lo
first-leads bs a c β (inl (p, q)) h = here (sym p)
first-leads bs a c β (inr (p, q)) h = along (between-bonded bs a c β (inr (p, q)) h) (here (sym p))

-- ---- con(a, C), where each bond of C is one of the list

module _ (C : Items) (bs : List Bond) (among : (β : Bond) → C (bond β) → has_bond β bs ≡ true) where
  path-led : (w : List Bond) (a : ℕ) (β : Bond) → Path a w C → Mem β w → (has_bond β bs ≡ true) × Leads bs a β.lo
  path-led [] a β p m = absurd m
  path-led (γ ∷ w) a β (c, j, u, v, p) (inl e) = rw e (among γ u, first-leads bs a c γ j (among γ u))
  path-led (γ ∷ w) a β (c, j, u, v, p) (inr m) = let (h, l) = path-led w c β p m in (h, along (between-bonded bs a c γ j (among γ u)) l)

  pub con-led : (a : ℕ) (i : Item) → Con a C i → Allowed bs i × Leads bs a (anchor i)
  con-led a i (inl (u, e)) = rw e (tt, here refl)
  con-led a i (inr (w, p, β, m, inl e)) = rw e (path-led w a β p m)
  con-led a i (inr (w, p, β, m, inr (inl e))) = let (h, l) = path-led w a β p m in rw e (tt, l)
  con-led a i (inr (w, p, β, m, inr (inr e))) = let (h, l) = path-led w a β p m in rw e (tt, leads-trans l (bond-leads bs β h))

-- ---- con(a, C), where C has all bases and bonds of the list that are reached, which `On` is true of

module _ (C : Items) (bs : List Bond) (On : ℕ → Type 0) (on-base : (p : ℕ) → On p → C (base p)) (on-bond : (β : Bond) → has_bond β bs ≡ true → On β.lo → C (bond β))
    (onward : (p q : ℕ) → On p → bonded bs p q ≡ true → On q) where
  -- the first bond of a path
  start_of : (a c : ℕ) → bonded bs a c ≡ true → On a → (β : Bond) × Between a c β × C (bond β) × C (base c)
  start_of a c k o =
      let (β, h, j) = bonded-between bs a c k in
      (β, j, on-bond β h (low β j), on-base c (onward a c o k))
    where
      low : (β : Bond) → Between a c β → On β.lo
      low β (inl (p, q)) = rw p o
      low β (inr (p, q)) = rw p (onward a c o k)

  abbrev Reached : ℕ → ℕ → Type 0
  Reached a b = (w : List Bond) × Path a w C × (β : Bond) × Mem β w × ((b ≡ β.lo) ⊎ (b ≡ β.hi))

  end_of : (a c : ℕ) (β : Bond) → Between a c β → (c ≡ β.lo) ⊎ (c ≡ β.hi)
  end_of a c β (inl (p, q)) = inr (sym q)
  end_of a c β (inr (p, q)) = inl (sym p)

  led-base : {a b : ℕ} → Leads bs a b → On a → (a ≡ b) ⊎ Reached a b
  led-base (here e) o = inl e
  led-base (along {p = a} {r = c} {q = b} k l) o =
      let (β, j, u, v) = start_of a c k o in
      inr (go β j u v (led-base l (onward a c o k)))
    where
      go : (β : Bond) → Between a c β → C (bond β) → C (base c) → (c ≡ b) ⊎ Reached c b → Reached a b
      go β j u v (inl e) = (β ∷ [], (c, j, u, v, tt), β, inl refl, rw (← e) (end_of a c β j))
      go β j u v (inr (w, p, γ, m, o)) = (β ∷ w, (c, j, u, v, p), γ, inr m, o)

  led-bond : {a b : ℕ} (γ : Bond) → Leads bs a b → b ≡ γ.lo → On a → has_bond γ bs ≡ true → (w : List Bond) × Path a w C × Mem γ w
  led-bond γ (here {p = a} e) d o h =
      let o' : On γ.lo = rw (← d, ← e) o in
      (γ ∷ [], (γ.hi, inl (sym d ∙ sym e, refl), on-bond γ h o', on-base γ.hi (onward γ.lo γ.hi o' (or_l (has_bond γ bs) (has_bond (N.bond γ.hi γ.lo) bs) h)), tt), inl refl)
  led-bond γ (along {p = a} {r = c} k l) d o h =
      let (β, j, u, v) = start_of a c k o in
      let (w, p, m) = led-bond γ l d (onward a c o k) h in
      (β ∷ w, (c, j, u, v, p), inr m)

  pub led-con : (a : ℕ) (i : Item) → On a → Allowed bs i → Leads bs a (anchor i) → Con a C i
  led-con a (base b) o h l = go (led-base l o)
    where
      go : (a ≡ b) ⊎ Reached a b → Con a C (base b)
      go (inl e) = inl (on-base a o, ap base (sym e))
      go (inr (w, p, β, m, inl e)) = inr (w, p, β, m, inr (inl (ap base e)))
      go (inr (w, p, β, m, inr e)) = inr (w, p, β, m, inr (inr (ap base e)))
  led-con a (bond β) o h l = let (w, p, m) = led-bond β l refl o h in inr (w, p, β, m, inl refl)

-- ---- good markings

no-fit : (net : Net) → Fit net no_arcs
no-fit net = record {
  bases = λ e m. absurd m;
  from = λ e m. absurd m;
  to = λ e m. absurd m;
  ins = λ b h. both false h refl;
  low_in = λ b h. both false h refl;
  rising_in = tt;
  outs = λ b h. both false h refl;
  low = λ b h. both false h refl;
  rising = tt;
  listed = λ b h. both false h refl;
}

module _ (net : Net) (s : Marking) (G : Good net s) where
  pub leads-place : {a b : ℕ} → Leads s.bonds a b → place s a ≡ place s b
  leads-place l = W.leads-share net s G no_arcs (no-fit net) l

  pub leads-below : {a b : ℕ} → Leads s.bonds a b → a < net.bases → b < net.bases
  leads-below l h = W.leads-range net s G no_arcs (no-fit net) l h

  bonded-below : (a c : ℕ) → bonded s.bonds a c ≡ true → (a < net.bases) × (c < net.bases)
  bonded-below a c h = go (or-e (has_bond (N.bond a c) s.bonds) (has_bond (N.bond c a) s.bonds) h)
    where
      go : (has_bond (N.bond a c) s.bonds ≡ true) ⊎ (has_bond (N.bond c a) s.bonds ≡ true) → (a < net.bases) × (c < net.bases)
      go (inl k) = let r = G.range (N.bond a c) k in let u = r.0 in let v = r.1 in (omega arith, omega arith)
      go (inr k) = let r = G.range (N.bond c a) k in let u = r.0 in let v = r.1 in (omega arith, omega arith)

  -- a bond is at the place of each of its bases
  bond-at : (a c : ℕ) (β : Bond) → Between a c β → has_bond β s.bonds ≡ true → place s β.lo ≡ place s a
  bond-at a c β (inl (p, q)) h = ap (place s) p
  bond-at a c β (inr (p, q)) h = G.share β h ∙ ap (place s) q

  -- what a list's bonds have, of bases that are there
  pub allowed-present : (i : Item) → anchor i < net.bases → Allowed s.bonds i → Present net s i
  allowed-present (base b) h k = h
  allowed-present (bond β) h k = k

  pub present-allowed : (i : Item) → Present net s i → Allowed s.bonds i
  present-allowed (base b) h = tt
  present-allowed (bond β) h = h

  module _ (x : ℕ) where
    -- con(a, M(x)) is empty where a is not in M(x)
    con-at : (a : ℕ) (i : Item) → Con a (marks_of net s x) i → (a < net.bases) × (place s a ≡ x)
    con-at a i (inl (u, e)) = u
    con-at a i (inr ([], p, β, m, o)) = absurd m
    con-at a i (inr (γ ∷ w, (c, j, (u, q), v, p), β, m, o)) = ((bonded-below a c (between-bonded s.bonds a c γ j u)).0, sym (bond-at a c γ j u) ∙ q)

    pub con-leads : (a : ℕ) (i : Item) → Con a (marks_of net s x) i
        → (a < net.bases) × (place s a ≡ x) × Present net s i × Leads s.bonds a (anchor i)
    con-leads a i c =
        let (u, q) = con-at a i c in
        let (h, l) = con-led (marks_of net s x) s.bonds (λ β k. k.0) a i c in
        (u, q, allowed-present i (leads-below l u) h, l)

    pub leads-con : (a : ℕ) (i : Item) → a < net.bases → place s a ≡ x → Present net s i → Leads s.bonds a (anchor i) → Con a (marks_of net s x) i
    leads-con a i u q h l = led-con (marks_of net s x) s.bonds (λ p. (p < net.bases) × (place s p ≡ x)) (λ p o. o) (λ β k o. (k, o.1))
        (λ p r (_, o) k. ((bonded-below p r k).1, sym (leads-place (along k (here refl))) ∙ o)) a i (u, q) (present-allowed i h) l
