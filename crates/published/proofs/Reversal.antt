-- Taking back a firing that broke no bond gives exactly the marking of Definition 7, bases and bonds, place by place, where the
-- moved bases look as the firing left them. Assumes that the net meets the sheet's rules, and good markings.
use mathlib.Core.Path.{◌≡◌, refl, sym, ◌∙◌, ap, subst, subst⁻¹}
use mathlib.Core.Logic.{inl, inr}
use mathlib.Core.Bool.{Bool, true, false, not, ◌&&◌}
use mathlib.Core.List.{List}
use Prim.Native.Nat.{ℕ, ◌<◌}
use lib.ListN.{length}
use borrow.Author.Tests.{not-true}
use Rattle.causal.proofs.Tests.{test, both}
use Rattle.net.specs.Tests.{keep}
use Rattle.net.specs.Net.{Arcs, Marking, Net, same_bond, less_bond, has_bond, arcs_of}
use Rattle.net.specs.Rules.{net_rule}
use Rattle.net.specs.Connection.{Leads}
use Rattle.net.specs.Marking.{Good}
use Rattle.net.specs.Firing.{moves, broken_bond, new_bond, undo}
use Rattle.net.specs.declared.Bond.{Bond}
use Rattle.net.specs.declared.Transition.{Transition}
use Rattle.net.proofs.Tests.{fails, and_l, and_r}
use Rattle.net.proofs.Sorted.{has-keep, ascending-keep}
use Rattle.net.proofs.Bonds.{bond-order}
use Rattle.net.proofs.Moves.{Fit, view, seen-place}
use Rattle.net.proofs.Uncoupling.{kept_back}
use Rattle.net.proofs.Rules.{fits}
use Rattle.published.specs.Sets.{Iff, Item, base, bond, minus}
use Rattle.published.specs.Nets.{Pre, Post}
use Rattle.published.specs.Forward.{eff}
use Rattle.published.specs.Backtracking.{reversed_marks}
use Rattle.published.specs.Sheets.{anchor, Present, petri_net, marks_of}
use Rattle.published.proofs.Nets.{in-pre}
use Rattle.published.proofs.Components.{con-more, leads-place, con-leads, leads-con}
use Rattle.published.proofs.Enabling.{at_home, entry-outgoing}
use Rattle.published.proofs.Firing.{led-moves, moves-led}
use Rattle.published.proofs.TakenBack.{same-present, Untouched, entry_in, at_out, on, off, back-leads, leads-back, not_left, left-moved}

-- ---- M(y) − eff(t) is the marking without the new bonds

-- the same places, without the bonds that the transition made
abbrev cut : Arcs → Marking → Marking
cut a y = record { places = y.places; bonds = keep (λ (b : Bond). not (new_bond a b)) y.bonds }

has-cut : (a : Arcs) (y : Marking) (b : Bond) → has_bond b (cut a y).bonds ≡ (has_bond b y.bonds && not (new_bond a b))
has-cut a y b = has-keep same_bond less_bond bond-order (λ (c : Bond). not (new_bond a c)) b y.bonds

was-uncut : (a : Arcs) (y : Marking) (b : Bond) → has_bond b (cut a y).bonds ≡ true → has_bond b y.bonds ≡ true
was-uncut a y b h = and_l (has_bond b y.bonds) (not (new_bond a b)) (sym (has-cut a y b) ∙ h)

cut-good : (net : Net) (a : Arcs) (y : Marking) → Good net y → Good net (cut a y)
cut-good net a y H = record {
  size = H.size;
  within = H.within;
  order = ascending-keep same_bond less_bond bond-order (λ (b : Bond). not (new_bond a b)) y.bonds H.order;
  range = λ b h. H.range b (was-uncut a y b h);
  share = λ b h. H.share b (was-uncut a y b h);
  listed = λ b h. H.listed b (was-uncut a y b h);
}

module _ (net : Net) (ok : net_rule net ≡ true) (t : Transition) (h : t.0 < length net.transitions) (y : Marking) where
  out-post : (β : Bond) → has_bond β (arcs_of net t).out_bonds ≡ true → Post (petri_net net) t (bond β)
  out-post β o = let F = fits net ok t h in let (e, d, J, _) = F.outs β o in (e.to, F.to e J.first, (o, e, J.first, J.lo, refl))

  pre_in : (β : Bond) → Pre (petri_net net) t (bond β) → has_bond β (arcs_of net t).in_bonds ≡ true
  pre_in β (x, _, (i, _, _, _, _)) = i

  post_out : (β : Bond) → Post (petri_net net) t (bond β) → has_bond β (arcs_of net t).out_bonds ≡ true
  post_out β (x, _, (o, _, _, _, _)) = o

  post-pre : (b : ℕ) → Post (petri_net net) t (base b) → Pre (petri_net net) t (base b)
  post-pre b (x, _, (_, e, m, q, _)) = (e.from, (fits net ok t h).from e m, (tt, e, m, q, refl))

  -- the effect has no in-bond and no base, and every new bond
  effect-new : (β : Bond) → eff (petri_net net) t (bond β) → new_bond (arcs_of net t) β ≡ true
  effect-new β (o, out) = rw (post_out β o, fails (has_bond β (arcs_of net t).in_bonds) (λ i. out (in-pre net ok t h β i)))

  no-effect : (b : ℕ) → eff (petri_net net) t (base b) → ⊥
  no-effect b (o, out) = out (post-pre b o)

  new-effect : (β : Bond) → new_bond (arcs_of net t) β ≡ true → eff (petri_net net) t (bond β)
  new-effect β k = (
    out-post β (and_l (has_bond β (arcs_of net t).out_bonds) (not (has_bond β (arcs_of net t).in_bonds)) k),
    λ q. both (has_bond β (arcs_of net t).in_bonds) (pre_in β q) (not-true (has_bond β (arcs_of net t).in_bonds) (and_r (has_bond β (arcs_of net t).out_bonds) (not (has_bond β (arcs_of net t).in_bonds)) k)),
  )

  minus-cut : (x : ℕ) (i : Item) → minus (marks_of net y x) (eff (petri_net net) t) i → marks_of net (cut (arcs_of net t) y) x i
  minus-cut x (base a) ((u, q), out) = (u, q)
  minus-cut x (bond β) ((u, q), out) = (has-cut (arcs_of net t) y β ∙ rw (u, fails (new_bond (arcs_of net t) β) (λ k. out (new-effect β k))), q)

  cut-minus : (x : ℕ) (i : Item) → marks_of net (cut (arcs_of net t) y) x i → minus (marks_of net y x) (eff (petri_net net) t) i
  cut-minus x (base a) (u, q) = ((u, q), no-effect a)
  cut-minus x (bond β) (u, q) = (
    (was-uncut (arcs_of net t) y β u, q),
    λ k. both (new_bond (arcs_of net t) β) (effect-new β k) (not-true (new_bond (arcs_of net t) β) (and_r (has_bond β y.bonds) (not (new_bond (arcs_of net t) β)) (sym (has-cut (arcs_of net t) y β) ∙ u))),
  )

-- ---- Definition 7's marking

module _ (net : Net) (ok : net_rule net ≡ true) (t : Transition) (m : List Bool) (y : Marking) (H : Good net y) (U : Untouched net t m y)
    (unbroken : (β : Bond) → broken_bond (arcs_of net t) β ≡ false) where
  abbrev a : Arcs
  a = arcs_of net t

  abbrev s : Marking
  s = U.before

  abbrev u : Marking
  u = undo net.bases (arcs_of net t) m y

  abbrev in-m : ℕ → Bool
  in-m p = moves U.before.bonds (arcs_of net t).entries p

  F : Fit net (arcs_of net t)
  F = fits net ok t U.fires.listed

  -- taking back removes the new bonds, and puts none in
  cut-bonds : u.bonds ≡ (cut a y).bonds
  cut-bonds = kept_back a unbroken y.bonds

  cut-present : (i : Item) → Present net u i → Present net (cut a y) i
  cut-present (base b) k = k
  cut-present (bond β) k = ap (has_bond β) (sym cut-bonds) ∙ k

  uncut-present : (i : Item) → Present net (cut a y) i → Present net u i
  uncut-present (base b) k = k
  uncut-present (bond β) k = ap (has_bond β) cut-bonds ∙ k

  reversed-to : (x : ℕ) (i : Item) → marks_of net u x i → reversed_marks (petri_net net) (marks_of net y) t x i
  reversed-to x i (k, q) = test (in-m (anchor i)) moved-case still-case
    where
      moved-case : in-m (anchor i) ≡ true → reversed_marks (petri_net net) (marks_of net y) t x i
      moved-case c =
          let (e, n, l) = moves-led a s.bonds (anchor i) c in
          let home : e.from ≡ x = sym (at_home a s U.fires.placed e n) ∙ leads-place net s U.good l ∙ seen-place s u (anchor i) (on net ok t m y H U (anchor i) c) ∙ q in
          let l' : Leads (cut a y).bonds e.base (anchor i) = subst (λ (bs : List Bond). Leads bs e.base (anchor i)) cut-bonds (back-leads net ok t m y H U l (entry_in net ok t m y H U e n)) in
          inr (
            e.to,
            e.base,
            entry-outgoing net ok s U.good t U.fires.listed e n,
            (tt, e, n, refl, home),
            (tt, e, n, refl, refl),
            con-more (marks_of net (cut a y) e.to) (minus (marks_of net y e.to) (eff (petri_net net) t)) (cut-minus net ok t U.fires.listed y e.to) e.base i
                (leads-con net (cut a y) (cut-good net a y H) e.to e.base i (F.bases e n) (at_out net ok t m y H U e n) (cut-present i k) l'),
          )

      still-case : in-m (anchor i) ≡ false → reversed_marks (petri_net net) (marks_of net y) t x i
      still-case c =
          let v : view y (anchor i) ≡ view u (anchor i) = off net ok t m y H U (anchor i) c in
          inl ((same-present net u y i (sym v) k, seen-place y u (anchor i) v ∙ q), λ d. both (in-m (anchor i)) (left-moved net ok t m y H U x i d) c)

  reversed-from : (x : ℕ) (i : Item) → reversed_marks (petri_net net) (marks_of net y) t x i → marks_of net u x i
  reversed-from x i (inl ((k, q), in_place)) = test (in-m (anchor i)) (λ c. absurd (not_left net ok t m y H U x i (k, q) in_place c))
      (λ c. let v : view y (anchor i) ≡ view u (anchor i) = off net ok t m y H U (anchor i) c in (same-present net y u i v k, sym (seen-place y u (anchor i) v) ∙ q))
  reversed-from x i (inr (w, b, _, (_, e, n, r, q), _, c)) =
      let (_, _, k, l) =
      con-leads net (cut a y) (cut-good net a y H) w b i (con-more (minus (marks_of net y w) (eff (petri_net net) t)) (marks_of net (cut a y) w) (minus-cut net ok t U.fires.listed y w) b i c) in
      let l₁ : Leads u.bonds e.base (anchor i) = rw r (subst⁻¹ (λ (bs : List Bond). Leads bs b (anchor i)) cut-bonds l) in
      let l₂ : Leads s.bonds e.base (anchor i) = leads-back net ok t m y H U l₁ (entry_in net ok t m y H U e n) in
      let v : view s (anchor i) ≡ view u (anchor i) = on net ok t m y H U (anchor i) (led-moves a s.bonds e n (anchor i) l₂) in
      (uncut-present i k, sym (seen-place s u (anchor i) v) ∙ sym (leads-place net s U.good l₂) ∙ at_home a s U.fires.placed e n ∙ q)

  pub reversed-iff : (x : ℕ) (i : Item) → Iff (marks_of net (undo net.bases (arcs_of net t) m y) x i) (reversed_marks (petri_net net) (marks_of net y) t x i)
  reversed-iff x i = (reversed-to x i, reversed-from x i)
