-- A firing whose moved bases look as it left them, and what taking it back does: each moved base is still led to from one of its
-- entries, and the bases that leave by Definitions 7 and 24 are the moved ones.
-- Assumes that the net meets the sheet's rules, and good markings.
use mathlib.Core.Path.{◌≡◌, refl, sym, ◌∙◌, ap, subst⁻¹}
use mathlib.Core.Bool.{Bool, true, false}
use mathlib.Core.List.{List}
use Prim.Native.Nat.{ℕ}
use Rattle.causal.specs.Lists.{Mem}
use Rattle.net.specs.Net.{Arcs, Marking, Net, place, arcs_of}
use Rattle.net.specs.Rules.{net_rule}
use Rattle.net.specs.Connection.{bonded, Leads}
use Rattle.net.specs.Marking.{Good}
use Rattle.net.specs.Firing.{in_set, moves, bonds_seen, fire, undo, Fires}
use Rattle.net.specs.declared.Entry.{Entry}
use Rattle.net.specs.declared.Transition.{Transition}
use Rattle.net.proofs.Connection.{walk, walk-back}
use Rattle.net.proofs.Moves.{Fit, view, seen-place, seen_first, seen-bonded, entry-moves, closed, mem-moved}
use Rattle.net.proofs.Change.{closed_after, moves-after}
use Rattle.net.proofs.Fire.{entry-goes}
use Rattle.net.proofs.Undo.{undo-on, undo-off, undo-good}
use Rattle.net.proofs.Rules.{fits}
use Rattle.published.specs.Sets.{Item, base, bond}
use Rattle.published.specs.States.{Somewhere}
use Rattle.published.specs.Backtracking.{leaves_back}
use Rattle.published.specs.Sheets.{anchor, Present, petri_net, marks_of}
use Rattle.published.proofs.Components.{leads-place, leads-below, con-leads, leads-con}
use Rattle.published.proofs.Firing.{moves-led}

-- what is there, by what is seen at the item's base
pub same-present : (net : Net) (v w : Marking) (i : Item) → view v (anchor i) ≡ view w (anchor i) → Present net v i → Present net w i
same-present net v w (base b) e k = k
same-present net v w (bond β) e k = sym (seen_first v w β.lo e β.hi) ∙ k

-- t was fired from `before` and moved m; in y these bases look as they did just after it.
pub record Untouched (net : Net) (t : Transition) (m : List Bool) (y : Marking) : Type 0 where
  pub before : Marking
  pub good : Good net before
  pub fires : Fires net before t m (fire net.bases (arcs_of net t) before)
  pub like : (p : ℕ) → moves before.bonds (arcs_of net t).entries p ≡ true → view (fire net.bases (arcs_of net t) before) p ≡ view y p

module _ (net : Net) (ok : net_rule net ≡ true) (t : Transition) (m : List Bool) (y : Marking) (H : Good net y) (U : Untouched net t m y) where
  abbrev a : Arcs
  a = arcs_of net t

  abbrev s : Marking
  s = U.before

  abbrev z : Marking
  z = fire net.bases (arcs_of net t) U.before

  abbrev u : Marking
  u = undo net.bases (arcs_of net t) m y

  abbrev in-m : ℕ → Bool
  in-m p = moves U.before.bonds (arcs_of net t).entries p

  F : Fit net (arcs_of net t)
  F = fits net ok t U.fires.listed

  -- ---- the moved bases

  pub in-flags : (p : ℕ) → in_set m p ≡ in-m p
  in-flags p = ap (λ (n : List Bool). in_set n p) U.fires.moves_m ∙ mem-moved net s U.good a F p

  pub entry_in : (e : Entry) → Mem e a.entries → in-m e.base ≡ true
  entry_in = entry-moves net s U.good a F

  -- bonds do not lead out of them
  closed-y : (p q : ℕ) → in-m p ≡ true → bonded y.bonds p q ≡ true → in-m q ≡ true
  closed-y p q k c = closed_after net s U.good a F p q k (seen-bonded z y p (U.like p k) q ∙ c)

  pub led-in-m : {p q : ℕ} → Leads y.bonds p q → in-m p ≡ true → in-m q ≡ true
  led-in-m l k = (walk in-m y.bonds y.bonds closed-y (λ p q _. refl) l k).0

  -- each is led to from an entry, after the firing and so in y
  pub still-led : (p : ℕ) → in-m p ≡ true → (e : Entry) × Mem e a.entries × Leads y.bonds e.base p
  still-led p k =
      let (e, n, l) = moves-led a (bonds_seen a s.bonds) p (moves-after net s U.good a F p k) in
      (e, n, (walk in-m z.bonds y.bonds (closed_after net s U.good a F) (λ x r o. seen-bonded z y x (U.like x o) r) l (entry_in e n)).1)

  -- an entry's base is at the out-place
  pub at_out : (e : Entry) → Mem e a.entries → place y e.base ≡ e.to
  at_out e n = sym (seen-place z y e.base (U.like e.base (entry_in e n))) ∙ entry-goes net s U.good a F U.fires.together e n

  -- ---- after taking back: the moved bases look as before the firing, the others as in y

  pub on : (p : ℕ) → in-m p ≡ true → view s p ≡ view u p
  on p k = subst⁻¹ (λ (n : List Bool). view s p ≡ view (undo net.bases a n y) p) U.fires.moves_m
      (undo-on net s U.good a F U.fires.placed U.fires.present U.fires.absent y H U.like p k)

  pub off : (p : ℕ) → in-m p ≡ false → view y p ≡ view u p
  off p k = subst⁻¹ (λ (n : List Bool). view y p ≡ view (undo net.bases a n y) p) U.fires.moves_m
      (undo-off net s U.good a F U.fires.placed U.fires.present U.fires.absent y H U.like p k)

  pub good-u : Good net u
  good-u = subst⁻¹ (λ (n : List Bool). Good net (undo net.bases a n y)) U.fires.moves_m
      (undo-good net s U.good a F U.fires.placed U.fires.present U.fires.absent y H U.like)

  -- bonds before the firing and bonds after taking back lead to the same moved bases
  alike : (p q : ℕ) → in-m p ≡ true → bonded s.bonds p q ≡ bonded u.bonds p q
  alike p q k = seen-bonded s u p (on p k) q

  pub back-leads : {p q : ℕ} → Leads s.bonds p q → in-m p ≡ true → Leads u.bonds p q
  back-leads l k = (walk in-m s.bonds u.bonds (closed net s U.good a F) alike l k).1

  pub leads-back : {p q : ℕ} → Leads u.bonds p q → in-m p ≡ true → Leads s.bonds p q
  leads-back l k = walk-back in-m s.bonds u.bonds (closed net s U.good a F) alike l k

  -- ---- the bases that leave by Definitions 7 and 24

  pub left-moved : (x : ℕ) (i : Item) → leaves_back (petri_net net) (marks_of net y) t x i → in-m (anchor i) ≡ true
  left-moved x i (b, (_, e, n, r, _), c) =
      let l : Leads y.bonds e.base (anchor i) = rw r (con-leads net y H x b i c).3 in
      led-in-m l (entry_in e n)

  pub moved-leave-back : (p : ℕ) → in-m p ≡ true → Somewhere (leaves_back (petri_net net) (marks_of net y) t) p
  moved-leave-back p c =
      let (e, n, l) = still-led p c in
      (e.to, (e.base, (tt, e, n, refl, refl), leads-con net y H e.to e.base (base p) (F.bases e n) (at_out e n) (leads-below net y H l (F.bases e n)) l))

  pub leave-back-moved : (p : ℕ) → Somewhere (leaves_back (petri_net net) (marks_of net y) t) p → in-m p ≡ true
  leave-back-moved p (x, k) = left-moved x (base p) k

  -- what is moved leaves its place
  pub not_left : (x : ℕ) (i : Item) → marks_of net y x i → (leaves_back (petri_net net) (marks_of net y) t x i → ⊥) → in-m (anchor i) ≡ true → ⊥
  not_left x i (k, q) stays c =
      let (e, n, l) = still-led (anchor i) c in
      let r : place y e.base ≡ x = leads-place net y H l ∙ q in
      stays (e.base, (tt, e, n, refl, sym (at_out e n) ∙ r), leads-con net y H x e.base i (F.bases e n) r k l)
