-- A firing that none of 12 to 16 refuses moves the bases that leave by Definitions 5 and 22, and, where it breaks no bond, gives
-- exactly the marking of Definition 5. Assumes that the net meets the sheet's rules, and a good marking.
use mathlib.Core.Path.{◌≡◌, refl, sym, ◌∙◌}
use mathlib.Core.Logic.{◌⊎◌, inl, inr}
use mathlib.Core.Bool.{true, false, not, ◌&&◌}
use mathlib.Core.List.{List}
use Prim.Native.Nat.{ℕ, ◌<◌}
use lib.ListN.{length}
use Rattle.causal.specs.Lists.{Mem}
use Rattle.causal.proofs.Tests.{test, both}
use Rattle.net.specs.Net.{Arcs, Marking, Net, has_bond, place, arcs_of}
use Rattle.net.specs.Rules.{net_rule}
use Rattle.net.specs.Connection.{Leads, here, connected}
use Rattle.net.specs.Marking.{Good}
use Rattle.net.specs.Firing.{in_set, moves, moved, broken_bond, bonds_seen, misplaced, torn_apart, fire}
use Rattle.net.specs.Checks.{clear}
use Rattle.net.specs.Journal.{enable_checks}
use Rattle.net.specs.declared.Bond.{Bond}
use Rattle.net.specs.declared.Entry.{Entry}
use Rattle.net.specs.declared.Transition.{Transition}
use Rattle.net.proofs.Tests.{or_l, or_r, any-e, any-i}
use Rattle.net.proofs.Connection.{connected-leads, leads-connected}
use Rattle.net.proofs.Moves.{sent-none, Fit, mem-moved}
use Rattle.net.proofs.Change.{after-e, none_after}
use Rattle.net.proofs.Uncoupling.{kept-connected}
use Rattle.net.proofs.Fire.{place-fire, has-fire, fire-good, entry-goes}
use Rattle.net.proofs.Rules.{fits}
use Rattle.net.proofs.Journal.{enabled-fires}
use Rattle.published.specs.Sets.{Iff, Item, base, bond}
use Rattle.published.specs.States.{Somewhere}
use Rattle.published.specs.Forward.{leaves, fired_marks}
use Rattle.published.specs.Sheets.{anchor, Present, petri_net, marks_of}
use Rattle.published.proofs.Components.{leads-place, leads-below, con-leads, leads-con}
use Rattle.published.proofs.Enabling.{at_home}

-- a base to which an entry's base leads is moved, and a moved base is led to
pub led-moves : (t : Arcs) (bs : List Bond) (e : Entry) → Mem e t.entries → (p : ℕ) → Leads bs e.base p → moves bs t.entries p ≡ true
led-moves t bs e m p l = any-i (λ (d : Entry). connected bs d.base p) t.entries e m (leads-connected bs e.base p l)

pub moves-led : (t : Arcs) (bs : List Bond) (p : ℕ) → moves bs t.entries p ≡ true → (e : Entry) × Mem e t.entries × Leads bs e.base p
moves-led t bs p h =
    let (e, m, c) = any-e (λ (d : Entry). connected bs d.base p) t.entries h in
    (e, m, connected-leads bs e.base p c)

-- ---- places after a firing

module _ (net : Net) (s : Marking) (G : Good net s) (a : Arcs) (F : Fit net a) where
  pub stays_put : (p : ℕ) → moves s.bonds a.entries p ≡ false → place (fire net.bases a s) p ≡ place s p
  stays_put p h = place-fire net s G a F p ∙ sent-none (λ (e : Entry). e.to) (bonds_seen a s.bonds) a.entries p (place s p) (none_after net s G a F p h)

  -- what the bonds after the firing lead to from an entry's base goes to the entry's out-place
  pub goes_to : torn_apart a s ≡ false → (e : Entry) → Mem e a.entries → (p : ℕ) → Leads (bonds_seen a s.bonds) e.base p → place (fire net.bases a s) p ≡ e.to
  goes_to r16 e m p l = sym (leads-place net (fire net.bases a s) (fire-good net s G a F) l) ∙ entry-goes net s G a F r16 e m

-- ---- Definition 5, for a transition that breaks nothing

module _ (net : Net) (ok : net_rule net ≡ true) (s : Marking) (G : Good net s) (t : Transition) (h : t.0 < length net.transitions)
    (r13 : misplaced (arcs_of net t) s ≡ false) (r16 : torn_apart (arcs_of net t) s ≡ false) (unbroken : (β : Bond) → broken_bond (arcs_of net t) β ≡ false) where
  abbrev z : Marking
  z = fire net.bases (arcs_of net t) s

  goes : (e : Entry) → Mem e (arcs_of net t).entries → (p : ℕ) → Leads s.bonds e.base p → place z p ≡ e.to
  goes e m p l = goes_to net s G (arcs_of net t) (fits net ok t h) r16 e m p
      (connected-leads z.bonds e.base p (kept-connected (arcs_of net t) unbroken s.bonds e.base p (leads-connected s.bonds e.base p l)))

  stays : (p : ℕ) → moves s.bonds (arcs_of net t).entries p ≡ false → place z p ≡ place s p
  stays = stays_put net s G (arcs_of net t) (fits net ok t h)

  -- ---- what is there after the firing

  still-there : (i : Item) → Present net s i → Present net z i
  still-there (base a) u = u
  still-there (bond β) u = has-fire net s G (arcs_of net t) (fits net ok t h) β ∙ or_r (has_bond β (arcs_of net t).out_bonds) (has_bond β s.bonds && not (broken_bond (arcs_of net t) β)) (rw (u, unbroken β))

  put-there : (x : ℕ) (i : Item) → (petri_net net).puts t x i → Present net z i
  put-there x (base a) (u, e, m, b, q) = rw (← b) ((fits net ok t h).bases e m)
  put-there x (bond β) (u, e, m, b, q) = has-fire net s G (arcs_of net t) (fits net ok t h) β ∙ or_l (has_bond β (arcs_of net t).out_bonds) (has_bond β s.bonds && not (broken_bond (arcs_of net t) β)) u

  -- ---- each way

  was-there : (x : ℕ) (i : Item) → Present net s i → place z (anchor i) ≡ x → fired_marks (petri_net net) (marks_of net s) t x i
  was-there x i u q = test (moves s.bonds (arcs_of net t).entries (anchor i))
      (λ k.
      let (e, m, l) = moves-led (arcs_of net t) s.bonds (anchor i) k in
      inr (inr (
        e.base,
        e.from,
        (tt, e, m, refl, sym (goes e m (anchor i) l) ∙ q),
        (tt, e, m, refl, refl),
        leads-con net s G e.from e.base i ((fits net ok t h).bases e m) (at_home (arcs_of net t) s r13 e m) u l,
      )))
      (λ k. inl ((u, sym (stays (anchor i) k) ∙ q), λ (a, (_, e, m, b, r), c). gone k a e m b (con-leads net s G x a i c).3))
    where
      gone : moves s.bonds (arcs_of net t).entries (anchor i) ≡ false → (a : ℕ) (e : Entry) → Mem e (arcs_of net t).entries → e.base ≡ a → Leads s.bonds a (anchor i) → ⊥
      gone k a e m b l = both (moves s.bonds (arcs_of net t).entries (anchor i)) (led-moves (arcs_of net t) s.bonds e m (anchor i) (rw b l)) k

  fired-to : (x : ℕ) (i : Item) → marks_of net z x i → fired_marks (petri_net net) (marks_of net s) t x i
  fired-to x (base a) (u, q) = was-there x (base a) u q
  fired-to x (bond β) (u, q) = go (after-e (arcs_of net t) s.bonds β u)
    where
      go : (has_bond β (arcs_of net t).out_bonds ≡ true) ⊎ (has_bond β s.bonds ≡ true) → fired_marks (petri_net net) (marks_of net s) t x (bond β)
      go (inl k) =
          let (e, d, J, _) = (fits net ok t h).outs β k in
          inr (inl (k, e, J.first, J.lo, sym (goes e J.first β.lo (here J.lo)) ∙ q))
      go (inr k) = was-there x (bond β) k q

  fired-from : (x : ℕ) (i : Item) → fired_marks (petri_net net) (marks_of net s) t x i → marks_of net z x i
  fired-from x i (inl ((u, q), in_place)) = test (moves s.bonds (arcs_of net t).entries (anchor i))
      (λ k.
      let (e, m, l) = moves-led (arcs_of net t) s.bonds (anchor i) k in
      let r : place s e.base ≡ x = leads-place net s G l ∙ q in
      absurd (in_place (e.base, (tt, e, m, refl, sym (at_home (arcs_of net t) s r13 e m) ∙ r), leads-con net s G x e.base i ((fits net ok t h).bases e m) r u l)))
      (λ k. (still-there i u, stays (anchor i) k ∙ q))
  fired-from x i (inr (inl (u, e, m, b, q))) = (put-there x i (u, e, m, b, q), goes e m (anchor i) (here b) ∙ q)
  fired-from x i (inr (inr (a, y, (_, e, m, b, q), _, c))) =
      let (_, _, u, l) = con-leads net s G y a i c in
      (still-there i u, goes e m (anchor i) (rw b l) ∙ q)

-- ---- the bases that leave

module _ (net : Net) (ok : net_rule net ≡ true) (s : Marking) (G : Good net s) (t : Transition) (h : t.0 < length net.transitions) (r13 : misplaced (arcs_of net t) s ≡ false) where
  moved-leave : (p : ℕ) → moves s.bonds (arcs_of net t).entries p ≡ true → Somewhere (leaves (petri_net net) (marks_of net s) t) p
  moved-leave p k =
      let (e, m, l) = moves-led (arcs_of net t) s.bonds p k in
      let F = fits net ok t h in
      (e.from, (e.base, (tt, e, m, refl, refl), leads-con net s G e.from e.base (base p) (F.bases e m) (at_home (arcs_of net t) s r13 e m) (leads-below net s G l (F.bases e m)) l))

  leave-moved : (p : ℕ) → Somewhere (leaves (petri_net net) (marks_of net s) t) p → moves s.bonds (arcs_of net t).entries p ≡ true
  leave-moved p (x, (b, (_, e, m, r, _), c)) = led-moves (arcs_of net t) s.bonds e m p (rw r (con-leads net s G x b (base p) c).3)

module _ (net : Net) (ok : net_rule net ≡ true) (s : Marking) (G : Good net s) (t : Transition) (e : clear (enable_checks net s t) ≡ true) where
  -- the flags of the firing's line
  pub moved_out : (p : ℕ) → Iff (in_set (moved net.bases (arcs_of net t) s) p ≡ true) (Somewhere (leaves (petri_net net) (marks_of net s) t) p)
  moved_out p =
      let f = enabled-fires net s t e in
      let its = mem-moved net s G (arcs_of net t) (fits net ok t f.listed) p in
      ((λ k. moved-leave net ok s G t f.listed f.placed p (sym its ∙ k)), λ k. its ∙ leave-moved net ok s G t f.listed f.placed p k)

  pub fired-marks : ((β : Bond) → broken_bond (arcs_of net t) β ≡ false) → (x : ℕ) (i : Item) → Iff (marks_of net (fire net.bases (arcs_of net t) s) x i) (fired_marks (petri_net net) (marks_of net s) t x i)
  fired-marks unbroken x i =
      let f = enabled-fires net s t e in
      (fired-to net ok s G t f.listed f.placed f.together unbroken x i, fired-from net ok s G t f.listed f.placed f.together unbroken x i)
