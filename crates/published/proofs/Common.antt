-- "Later, and moved the base of an entry of the earlier" and "later, with a common moved base", on lines that run forward from
-- the start: the first is part of the second, in one or more steps they are the same, and where no step breaks a bond they
-- are the same in one. Assumes that the net meets the sheet's rules.
use mathlib.Core.Path.{◌≡◌, refl, sym, ◌∙◌, ap, subst, subst⁻¹}
use mathlib.Core.Logic.{inl, inr}
use mathlib.Core.Bool.{Bool, true, false, not}
use mathlib.Core.List.{List, [], ◌∷◌, ◌++◌}
use Prim.Native.Nat.{ℕ, ◌<◌}
use native.Mathlib.Omega.{arith}
use lib.ListN.{length}
use borrow.Author.Tests.{not-true}
use Rattle.causal.specs.Lists.{Mem}
use Rattle.causal.specs.Reorderings.{Dependent}
use Rattle.causal.specs.Runs.{Run}
use Rattle.causal.proofs.Tests.{test, both}
use Rattle.causal.proofs.Lists.{mem-split, mem-mid, mem-right}
use Rattle.causal.proofs.Runs.{run-split}
use Rattle.net.specs.Net.{Arcs, Marking, Net, arcs_of}
use Rattle.net.specs.Rules.{net_rule}
use Rattle.net.specs.Connection.{bonded, Leads}
use Rattle.net.specs.Marking.{Good}
use Rattle.net.specs.Firing.{in_set, moves, broken_bond, bonds_seen, Fires}
use Rattle.net.specs.Journal.{LiveLine, Journal}
use Rattle.net.specs.declared.Bond.{Bond}
use Rattle.net.specs.declared.Entry.{Entry}
use Rattle.net.specs.declared.Transition.{Transition}
use Rattle.net.proofs.Tests.{fails}
use Rattle.net.proofs.Connection.{bonded-sym, leads-trans, leads-sym, walk}
use Rattle.net.proofs.Moves.{seen-bonded, closed, mem-moved}
use Rattle.net.proofs.Change.{moves-after}
use Rattle.net.proofs.Laws.{laws}
use Rattle.net.proofs.Rules.{fits}
use Rattle.net.proofs.Keys.{Up, key_of, up-after}
use Rattle.published.specs.Sets.{Iff}
use Rattle.published.specs.Causal.{Order, Chain, once, onward}
use Rattle.published.specs.Sheets.{MovesEntry, later_with_entry, later_with_common}
use Rattle.published.proofs.Firing.{led-moves, moves-led}
use Rattle.published.proofs.Sessions.{good-after, Origin, in_moved, entry-in-run, still-carried}

-- ---- lists

-- a line of lower key is before
lower-left : (xs : List LiveLine) (h : LiveLine) (ys : List LiveLine) → Up (xs ++ h ∷ ys) → (l : LiveLine) → Mem l (xs ++ h ∷ ys) → l.key.0 < h.key.0 → Mem l xs
lower-left [] h ys u l (inl e) lt = let k = key_of e in absurd (let z : ⊥ = omega arith in z)
lower-left [] h ys u l (inr m) lt = let k = u.0 l m in absurd (let z : ⊥ = omega arith in z)
lower-left (x ∷ xs) h ys u l (inl e) lt = inl e
lower-left (x ∷ xs) h ys u l (inr m) lt = inr (lower-left xs h ys u.1 l m lt)

-- a line of higher key is after
higher-right : (xs : List LiveLine) (l : LiveLine) (ys : List LiveLine) → Up (xs ++ l ∷ ys) → (h : LiveLine) → Mem h (xs ++ l ∷ ys) → l.key.0 < h.key.0 → Mem h ys
higher-right [] l ys u h (inl e) lt = let k = key_of e in absurd (let z : ⊥ = omega arith in z)
higher-right [] l ys u h (inr m) lt = m
higher-right (x ∷ xs) l ys u h (inl e) lt = let k = u.0 l (mem-mid l xs ys) in let d = key_of e in absurd (let z : ⊥ = omega arith in z)
higher-right (x ∷ xs) l ys u h (inr m) lt = higher-right xs l ys u.1 h m lt

up_right : (xs : List LiveLine) (l : LiveLine) (ys : List LiveLine) → Up (xs ++ l ∷ ys) → Up ys
up_right [] l ys u = u.1
up_right (x ∷ xs) l ys u = up_right xs l ys u.1

-- ---- chains

chain-join : {R : Order} {u v t : Transition} {i n k : ℕ} → Chain R u i v n → Chain R v n t k → Chain R u i t k
chain-join (once r) d = onward r d
chain-join (onward r c) d = onward r (chain-join c d)

chain_first : {R : Order} {u t : Transition} {i k : ℕ} → Chain R u i t k → (v : Transition) × (n : ℕ) × R u i v n
chain_first (once r) = (_, _, r)
chain_first (onward r c) = (_, _, r)

-- a relation whose steps are chains of another has no other chains
pub chain_more : {R Q : Order} → ((u : Transition) (i : ℕ) (t : Transition) (k : ℕ) → R u i t k → Chain Q u i t k) → {u t : Transition} {i k : ℕ} → Chain R u i t k → Chain Q u i t k
chain_more f (once r) = f _ _ _ _ r
chain_more f (onward r c) = chain-join (f _ _ _ _ r) (chain_more f c)

module _ (net : Net) (ok : net_rule net ≡ true) where
  -- h is fired from b and moves p: what leads to p is moved too
  meets : (h : LiveLine) (O : Origin net ok h) (f p : ℕ) → Leads O.before.bonds f p → in_set h.moved p ≡ true → in_set h.moved f ≡ true
  meets h O f p l v =
      let (d, n, k) = moves-led (arcs_of net h.transition) O.before.bonds p (sym (in_moved net ok h O p) ∙ v) in
      in_moved net ok h O f ∙ led-moves (arcs_of net h.transition) O.before.bonds d n f (leads-trans k (leads-sym l))

  -- ---- where p leads, from one line to the next

  module _ (p : ℕ) where
    -- a firing that does not move p leaves what leads to it
    leads-on : (s z : Marking) (t : Transition) (m : List Bool) → Good net s → Fires net s t m z → in_set m p ≡ false → (f : ℕ) → Leads s.bonds f p → Leads z.bonds f p
    leads-on s z t m g F off f l =
        let flags : (q : ℕ) → in_set m q ≡ moves s.bonds (arcs_of net t).entries q = λ q. ap (λ (n : List Bool). in_set n q) F.moves_m ∙ mem-moved net s g (arcs_of net t) (fits net ok t F.listed) q in
        let still : (x y : ℕ) → not (in_set m x) ≡ true → bonded s.bonds x y ≡ true → not (in_set m y) ≡ true =
        λ x y u c. rw (fails (in_set m y) (λ k. both (in_set m x)
        (flags x ∙ closed net s g (arcs_of net t) (fits net ok t F.listed) y x (sym (flags y) ∙ k) (bonded-sym s.bonds y x ∙ c)) (not-true (in_set m x) u))) in
        leads-sym (walk (λ q. not (in_set m q)) s.bonds z.bonds still (λ x y u. seen-bonded s z x ((laws net (fits net ok)).frame g F x (not-true (in_set m x) u)) y) (leads-sym l) (rw off)).1

    -- after a firing that moves p, an entry leads to it
    leads-new : (s z : Marking) (l : LiveLine) → Good net s → Fires net s l.transition l.moved z → in_set l.moved p ≡ true
        → (f : Entry) × Mem f (arcs_of net l.transition).entries × Leads z.bonds f.base p
    leads-new s z l g F on =
        let O : Origin net ok l = record { before = s; after = z; good = g; fires = F } in
        let a : Arcs = arcs_of net l.transition in
        let (f, n, k) = moves-led a (bonds_seen a s.bonds) p (moves-after net s g a (fits net ok l.transition F.listed) p (sym (in_moved net ok l O p) ∙ on)) in
        (f, n, subst⁻¹ (λ (x : Marking). Leads x.bonds f.base p) F.gives k)

  module _ (j : Journal) (r : Run (Fires net) net.start j.lines j.marking) (up : Up j.lines) where
    pub entry-common : (u : Transition) (i : ℕ) (t : Transition) (k : ℕ) → later_with_entry net j u i t k → later_with_common j u i t k
    entry-common u i t k (l, h, a, b, p, q, p', q', lt, (e, n, w)) =
        (l, h, a, b, p, q, p', q', lt, (e.base, entry-in-run net ok j.lines j.marking r l a e n, w))

    -- ---- from a line that moved p, by the lines that moved p, to any later one that did

    module _ (p : ℕ) where
      -- b is the marking before the lines zs; f is an entry of l, from which p is led to in b
      chain-on : (zs : List LiveLine) (b z : Marking) → Good net b → Run (Fires net) b zs z → ((x : LiveLine) → Mem x zs → Mem x j.lines) → Up zs
          → (l : LiveLine) → Mem l j.lines → ((x : LiveLine) → Mem x zs → l.key.0 < x.key.0)
          → (f : Entry) → Mem f (arcs_of net l.transition).entries → Leads b.bonds f.base p
          → (h : LiveLine) → Mem h zs → in_set h.moved p ≡ true → Chain (later_with_entry net j) l.transition l.key.0 h.transition h.key.0
      chain-on [] b z G r inside u l m low f n c h hm on = absurd hm
      chain-on (x ∷ zs) b z G (b₁, F, r₁) inside u l m low f n c h (inl e) on =
          let O : Origin net ok x = record { before = b; after = b₁; good = G; fires = F } in
          let on' : in_set x.moved p ≡ true = ap (λ (y : LiveLine). in_set y.moved p) (sym e) ∙ on in
          subst⁻¹ (λ (y : LiveLine). Chain (later_with_entry net j) l.transition l.key.0 y.transition y.key.0) e
          (once (l, x, m, inside x (inl refl), refl, refl, refl, refl, low x (inl refl), (f, n, meets x O f.base p c on')))
      chain-on (x ∷ zs) b z G (b₁, F, r₁) inside u l m low f n c h (inr hm) on =
          let G₁ : Good net b₁ = (laws net (fits net ok)).good G F in
          let O : Origin net ok x = record { before = b; after = b₁; good = G; fires = F } in
          test (in_set x.moved p)
          (λ k.
          let (f', n', c') = leads-new p b b₁ x G F k in
          onward (l, x, m, inside x (inl refl), refl, refl, refl, refl, low x (inl refl), (f, n, meets x O f.base p c k))
          (chain-on zs b₁ z G₁ r₁ (λ y o. inside y (inr o)) u.1 x (inside x (inl refl)) u.0 f' n' c' h hm on))
          (λ k. chain-on zs b₁ z G₁ r₁ (λ y o. inside y (inr o)) u.1 l m (λ y o. low y (inr o)) f n (leads-on p b b₁ x.transition x.moved G F k f.base c) h hm on)

    common-chain : (u : Transition) (i : ℕ) (t : Transition) (k : ℕ) → later_with_common j u i t k → Chain (later_with_entry net j) u i t k
    common-chain u i t k (l, h, a, b, e, q, e', q', lt, (p, v, w)) =
        let (xs, zs, s) = mem-split l j.lines a in
        subst (λ (y : ℕ). Chain (later_with_entry net j) u i t y) q' (subst (λ (y : ℕ). Chain (later_with_entry net j) u y t h.key.0) q
        (subst (λ (y : Transition). Chain (later_with_entry net j) u l.key.0 y h.key.0) e' (subst (λ (y : Transition). Chain (later_with_entry net j) y l.key.0 h.transition h.key.0) e
        (from xs zs l h s a b (omega arith) p v w))))
      where
        from : (xs zs : List LiveLine) (l h : LiveLine) → j.lines ≡ xs ++ l ∷ zs → Mem l j.lines → Mem h j.lines → l.key.0 < h.key.0 → (p : ℕ) → in_set l.moved p ≡ true → in_set h.moved p ≡ true
            → Chain (later_with_entry net j) l.transition l.key.0 h.transition h.key.0
        from xs zs l h s a b lt p v w =
            let up' : Up (xs ++ l ∷ zs) = subst Up s up in
            let (y, r₁, (x, F, r₂)) = run-split (Fires net) xs (l ∷ zs) net.start j.marking (subst (λ (vs : List LiveLine). Run (Fires net) net.start vs j.marking) s r) in
            let G : Good net y = good-after net ok xs y r₁ in
            let (f, n, c) = leads-new p y x l G F v in
            chain-on p zs x j.marking ((laws net (fits net ok)).good G F) r₂ (λ g o. subst⁻¹ (λ (vs : List LiveLine). Mem g vs) s (mem-right xs (l ∷ zs) g (inr o))) (up_right xs l zs up') l a
            (up-after l xs zs up') f n c h (higher-right xs l zs up' h (subst (λ (vs : List LiveLine). Mem h vs) s b) lt) w

    -- in one or more steps they are the same
    pub chains : (u : Transition) (i : ℕ) (t : Transition) (k : ℕ) → Iff (Chain (later_with_entry net j) u i t k) (Chain (later_with_common j) u i t k)
    chains u i t k = (
      (λ c. chain_more (λ u i t k d. once (entry-common u i t k d)) c),
      (λ c. chain_more common-chain c),
    )

    -- a firing has a successor by the one exactly where it has one by the other
    pub successors : (u : Transition) (i : ℕ) → Iff ((t : Transition) × (k : ℕ) × later_with_entry net j u i t k) ((t : Transition) × (k : ℕ) × later_with_common j u i t k)
    successors u i = ((λ (t, k, c). (t, k, entry-common u i t k c)), λ (t, k, c). chain_first (common-chain u i t k c))

    -- ---- where no step breaks a bond

    module _ (unbroken : (t : Transition) → t.0 < length net.transitions → (β : Bond) → broken_bond (arcs_of net t) β ≡ false) where
      carried : (l h : LiveLine) → Mem l j.lines → Mem h j.lines → l.key.0 < h.key.0 → Dependent in_set l.moved h.moved
          → MovesEntry net l h
      carried l h m n lt (p, a, b) =
          let (xs, ys, q) = mem-split h j.lines n in
          let u : Up (xs ++ h ∷ ys) = rw q at up in
          let (y, r₁, r₂) = run-split (Fires net) xs (h ∷ ys) net.start j.marking (rw q at r) in
          let (vs, ws, q') = mem-split l xs (lower-left xs h ys u l (rw q at m) lt) in
          let (e, c, v) = still-carried net ok unbroken vs l ws y (subst (λ (ls : List LiveLine). Run (Fires net) net.start ls y) q' r₁) p a in
          let O : Origin net ok h = record { before = y; after = r₂.0; good = good-after net ok xs y r₁; fires = r₂.1 } in
          (e, c, meets h O e.base p v b)

      pub entry-is-common : (u : Transition) (i : ℕ) (t : Transition) (k : ℕ) → Iff (later_with_entry net j u i t k) (later_with_common j u i t k)
      entry-is-common u i t k = (
        entry-common u i t k,
        (λ (l, h, a, b, p, q, p', q', lt, c). (l, h, a, b, p, q, p', q', lt, carried l h a b (rw (q, q') lt) c)),
      )
