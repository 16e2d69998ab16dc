-- What comes to a place by Definition 22, and by Definition 24, which is 22 with the arcs the other way round: the items of the
-- marking after the step whose bases are led to from an entry. Proved once, of a step from s to z along arcs with places f and
-- bonds `ins` before it, g and `outs` after it. Assumes nothing.
use mathlib.Core.Path.{◌≡◌, refl, sym, ◌∙◌, ap}
use mathlib.Core.Logic.{◌⊎◌, inl, inr}
use mathlib.Core.Bool.{true, false, not, ◌&&◌}
use mathlib.Core.List.{List, [], ◌∷◌}
use Prim.Native.Nat.{ℕ, ◌<◌}
use lib.Dec.{eqb}
use borrow.Author.Tests.{eqb-true, eq-eqb, not-true}
use Rattle.causal.specs.Lists.{Mem}
use Rattle.causal.proofs.Tests.{test, both}
use Rattle.net.specs.Tests.{any, keep}
use Rattle.net.specs.Net.{Arcs, Marking, Net, same_bond, less_bond, has_bond, place}
use Rattle.net.specs.Net as N
use Rattle.net.specs.Connection.{bonded, Leads, here, along}
use Rattle.net.specs.Marking.{Good}
use Rattle.net.specs.declared.Bond.{Bond}
use Rattle.net.specs.declared.Entry.{Entry}
use Rattle.net.proofs.Tests.{fails, and_l, and_r, or-e, or_l, or_r, any-e, any-no}
use Rattle.net.proofs.Sorted.{has-keep}
use Rattle.net.proofs.Bonds.{bond-order}
use Rattle.net.proofs.Connection.{leads-trans}
use Rattle.net.proofs.Moves.{Joins}
use Rattle.published.specs.Sets.{Item, base, bond, Items, union, minus}
use Rattle.published.specs.States.{Con}
use Rattle.published.specs.Sheets.{anchor, Allowed, Present, label_at, marks_of}
use Rattle.published.proofs.Components.{con-led, led-con, leads-place, leads-below, allowed-present}

-- ---- the bonds that stay

module _ (ins : List Bond) (s : Marking) where
  abbrev pub rest : List Bond
  rest = keep (λ (β : Bond). not (has_bond β ins)) s.bonds

  has_rest : (β : Bond) → has_bond β rest ≡ (has_bond β s.bonds && not (has_bond β ins))
  has_rest β = has-keep same_bond less_bond bond-order (λ (c : Bond). not (has_bond c ins)) β s.bonds

  pub rest-e : (β : Bond) → has_bond β rest ≡ true → (has_bond β s.bonds ≡ true) × (has_bond β ins ≡ false)
  rest-e β h =
      let k : (has_bond β s.bonds && not (has_bond β ins)) ≡ true = sym (has_rest β) ∙ h in
      (and_l (has_bond β s.bonds) (not (has_bond β ins)) k, not-true (has_bond β ins) (and_r (has_bond β s.bonds) (not (has_bond β ins)) k))

  pub rest-i : (β : Bond) → has_bond β s.bonds ≡ true → has_bond β ins ≡ false → has_bond β rest ≡ true
  rest-i β h k = has_rest β ∙ rw (h, k)

  pub wider : (cs : List Bond) → ((β : Bond) → has_bond β rest ≡ true → has_bond β cs ≡ true) → {p q : ℕ} → Leads rest p q → Leads cs p q
  wider cs w (here e) = here e
  wider cs w (along {p = p} {r = r} c l) = along (go (or-e (has_bond (N.bond p r) rest) (has_bond (N.bond r p) rest) c)) (wider cs w l)
    where
      go : (has_bond (N.bond p r) rest ≡ true) ⊎ (has_bond (N.bond r p) rest ≡ true) → bonded cs p r ≡ true
      go (inl e) = or_l (has_bond (N.bond p r) cs) (has_bond (N.bond r p) cs) (w (N.bond p r) e)
      go (inr e) = or_r (has_bond (N.bond p r) cs) (has_bond (N.bond r p) cs) (w (N.bond r p) e)

-- A step from s to z along arcs: entries at f before it and at g after it; the bonds `ins` are removed, and `outs` added.
pub record Step (net : Net) (a : Arcs) (f g : Entry → ℕ) (ins outs : List Bond) (s z : Marking) : Type 0 where
  pub before : Good net s
  pub after : Good net z
  pub bases : (e : Entry) → Mem e a.entries → e.base < net.bases
  pub from : (e : Entry) → Mem e a.entries → place s e.base ≡ f e
  pub to : (e : Entry) → Mem e a.entries → place z e.base ≡ g e
  pub in-joins : (β : Bond) → has_bond β ins ≡ true → (e : Entry) × (d : Entry) × Joins a β e d
  pub out-joins : (β : Bond) → has_bond β outs ≡ true → (e : Entry) × (d : Entry) × Joins a β e d × (g e ≡ g d)
  pub removed : (β : Bond) → has_bond β z.bonds ≡ true → (has_bond β outs ≡ true) ⊎ ((has_bond β s.bonds ≡ true) × (has_bond β ins ≡ false))
  pub added : (β : Bond) → has_bond β outs ≡ true → has_bond β z.bonds ≡ true
  pub stay : (β : Bond) → has_bond β s.bonds ≡ true → has_bond β ins ≡ false → has_bond β z.bonds ≡ true

module _ (net : Net) (a : Arcs) (f g : Entry → ℕ) (ins outs : List Bond) (s z : Marking) (S : Step net a f g ins outs s z) where
  -- (M(y) − label before) ∪ label after
  abbrev mixed : ℕ → ℕ → Items
  mixed y x = union (minus (marks_of net s y) (label_at f a.entries ins y)) (label_at g a.entries outs x)

  abbrev Comes : ℕ → Item → Type 0
  Comes x i = (b : ℕ) × (y : ℕ) × label_at g a.entries outs x (base b) × label_at f a.entries ins y (base b) × Con b (mixed y x) i

  rest-before : {p q : ℕ} → Leads (rest ins s) p q → Leads s.bonds p q
  rest-before l = wider ins s s.bonds (λ β h. (rest-e ins s β h).0) l

  rest-after : {p q : ℕ} → Leads (rest ins s) p q → Leads z.bonds p q
  rest-after l = wider ins s z.bonds (λ β h. let (u, v) = rest-e ins s β h in S.stay β u v) l

  -- ---- a chain from an entry: where it goes along a removed bond, there is an entry after that

  abbrev Near : ℕ → Type 0
  Near p = (e : Entry) × Mem e a.entries × Leads (rest ins s) e.base p

  near-bond : (p q : ℕ) → Near p → (β : Bond) → has_bond β s.bonds ≡ true → (has_bond β (rest ins s) ≡ true → bonded (rest ins s) p q ≡ true) → (β.lo ≡ q) ⊎ (β.hi ≡ q) → Near q
  near-bond p q (e, m, l) β h on end = test (has_bond β ins)
      (λ k. let (d, c, J) = S.in-joins β k in go d c J end)
      (λ k. (e, m, leads-trans l (along (on (rest-i ins s β h k)) (here refl))))
    where
      go : (d c : Entry) → Joins a β d c → (β.lo ≡ q) ⊎ (β.hi ≡ q) → Near q
      go d c J (inl k) = (d, J.first, here (J.lo ∙ k))
      go d c J (inr k) = (c, J.second, here (J.hi ∙ k))

  near_step : (p q : ℕ) → Near p → bonded s.bonds p q ≡ true → Near q
  near_step p q n c = go (or-e (has_bond (N.bond p q) s.bonds) (has_bond (N.bond q p) s.bonds) c)
    where
      go : (has_bond (N.bond p q) s.bonds ≡ true) ⊎ (has_bond (N.bond q p) s.bonds ≡ true) → Near q
      go (inl h) = near-bond p q n (N.bond p q) h (or_l (has_bond (N.bond p q) (rest ins s)) (has_bond (N.bond q p) (rest ins s))) (inr refl)
      go (inr h) = near-bond p q n (N.bond q p) h (or_r (has_bond (N.bond p q) (rest ins s)) (has_bond (N.bond q p) (rest ins s))) (inl refl)

  near : {p q : ℕ} → Leads s.bonds p q → Near p → Near q
  near (here e) (d, m, l) = (d, m, rw e at l)
  near (along {p = p} {r = r} c l) n = near l (near_step p r n c)

  -- ---- to Definition 22: what is at x after the step, and led to from an entry

  module _ (e : Entry) (m : Mem e a.entries) (x : ℕ) (at : g e ≡ x) where
    mixed-base : (p : ℕ) → Leads (rest ins s) e.base p → mixed (f e) x (base p)
    mixed-base p l = test (any (λ (d : Entry). eqb d.base p) a.entries)
        (λ h.
        let (d, n, q) = any-e (λ (c : Entry). eqb c.base p) a.entries h in
        let b : d.base ≡ p = eqb-true d.base p q in
        inr (tt, d, n, b, sym (S.to d n) ∙ ap (place z) b ∙ sym (leads-place net z S.after (rest-after l)) ∙ S.to e m ∙ at))
        (λ h. inl (
          (leads-below net s S.before (rest-before l) (S.bases e m), sym (leads-place net s S.before (rest-before l)) ∙ S.from e m),
          λ (_, d, n, b, _). both (eqb d.base p) (eq-eqb d.base p b) (any-no (λ (c : Entry). eqb c.base p) a.entries h d n),
        ))

    mixed-bond : (β : Bond) → has_bond β (rest ins s) ≡ true → Leads (rest ins s) e.base β.lo → mixed (f e) x (bond β)
    mixed-bond β h l =
        let (u, v) = rest-e ins s β h in
        inl ((u, sym (leads-place net s S.before (rest-before l)) ∙ S.from e m), λ (k, _, _, _, _). both (has_bond β ins) k v)

    led-comes : (i : Item) → Allowed (rest ins s) i → Leads (rest ins s) e.base (anchor i) → Comes x i
    led-comes i h l = (
      e.base,
      f e,
      (tt, e, m, refl, at),
      (tt, e, m, refl, refl),
      led-con (mixed (f e) x) (rest ins s) (λ p. Leads (rest ins s) e.base p) mixed-base mixed-bond (λ p q k c. leads-trans k (along c (here refl))) e.base i (here refl) h l,
    )

  added-comes : (x : ℕ) (β : Bond) → has_bond β outs ≡ true → place z β.lo ≡ x → Comes x (bond β)
  added-comes x β h q =
      let (e, d, J, same) = S.out-joins β h in
      let at : g e ≡ x = sym (S.to e J.first) ∙ ap (place z) J.lo ∙ q in (
        e.base,
        f e,
        (tt, e, J.first, refl, at),
        (tt, e, J.first, refl, refl),
        inr (β ∷ [], (d.base, inl (sym J.lo, sym J.hi), inr (h, e, J.first, J.lo, at), inr (tt, d, J.second, refl, sym same ∙ at), tt), β, inl refl, inl refl),
      )

  pub comes-to : (x : ℕ) (i : Item) (e : Entry) → Mem e a.entries → Leads s.bonds e.base (anchor i) → marks_of net z x i → Comes x i
  comes-to x i e m l (u, q) = by-item i l u q
    where
      at_x : (d : Entry) → Mem d a.entries → (p : ℕ) → Leads (rest ins s) d.base p → place z p ≡ x → g d ≡ x
      at_x d n p k r = sym (S.to d n) ∙ leads-place net z S.after (rest-after k) ∙ r

      kept-bond : (β : Bond) → Leads s.bonds e.base β.lo → place z β.lo ≡ x → (has_bond β outs ≡ true) ⊎ ((has_bond β s.bonds ≡ true) × (has_bond β ins ≡ false)) → Comes x (bond β)
      kept-bond β l r (inl o) = added-comes x β o r
      kept-bond β l r (inr (b, c)) = let (d, n, k) = near l (e, m, here refl) in led-comes d n x (at_x d n β.lo k r) (bond β) (rest-i ins s β b c) k

      by-item : (i : Item) → Leads s.bonds e.base (anchor i) → Present net z i → place z (anchor i) ≡ x → Comes x i
      by-item (base p) l u r = let (d, n, k) = near l (e, m, here refl) in led-comes d n x (at_x d n p k r) (base p) tt k
      by-item (bond β) l u r = kept-bond β l r (S.removed β u)

  -- ---- and back

  mixed-after : (y x : ℕ) (β : Bond) → mixed y x (bond β) → has_bond β z.bonds ≡ true
  mixed-after y x β (inl ((u, q), out)) = S.stay β u (fails (has_bond β ins) (λ k.
      let (e, d, J) = S.in-joins β k in
      out (k, e, J.first, J.lo, sym (S.from e J.first) ∙ ap (place s) J.lo ∙ q)))
  mixed-after y x β (inr (o, _, _, _, _)) = S.added β o

  pub comes-from : (x : ℕ) (i : Item) → Comes x i → marks_of net z x i
  comes-from x i (b, y, (_, e, m, k, q), _, c) =
      let (h, l) = con-led (mixed y x) z.bonds (mixed-after y x) b i c in
      let l' : Leads z.bonds e.base (anchor i) = rw k l in
      (allowed-present net z S.after i (leads-below net z S.after l' (S.bases e m)) h, sym (leads-place net z S.after l') ∙ S.to e m ∙ q)
