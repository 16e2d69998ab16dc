-- Taking back gives exactly the marking of Definition 24, bases and bonds, place by place, where the moved bases look as the
-- firing left them, whether it broke a bond or not. Assumes that the net meets the sheet's rules, and good markings.
use mathlib.Core.Path.{◌≡◌, sym, ◌∙◌}
use mathlib.Core.Logic.{◌⊎◌, inl, inr}
use mathlib.Core.Bool.{Bool, true, false, not, ◌&&◌}
use mathlib.Core.List.{List}
use Prim.Native.Nat.{ℕ}
use borrow.Author.Tests.{not-true, not-false}
use Rattle.causal.proofs.Tests.{test, both}
use Rattle.net.specs.Net.{Arcs, Marking, Net, has_bond, arcs_of}
use Rattle.net.specs.Rules.{net_rule}
use Rattle.net.specs.Marking.{Good}
use Rattle.net.specs.Firing.{moves, broken_bond, new_bond, undo}
use Rattle.net.specs.declared.Bond.{Bond}
use Rattle.net.specs.declared.Entry.{Entry}
use Rattle.net.specs.declared.Transition.{Transition}
use Rattle.net.proofs.Tests.{and_l, and_r, or-e, or_r, any-no}
use Rattle.net.proofs.Bonds.{has-mem}
use Rattle.net.proofs.Moves.{Fit, view, seen-place, seen_first, in-moves}
use Rattle.net.proofs.Undo.{has-back}
use Rattle.net.proofs.Rules.{fits}
use Rattle.published.specs.Sets.{Iff, Item, base}
use Rattle.published.specs.Uncoupling.{reversed24}
use Rattle.published.specs.Sheets.{anchor, petri_net, marks_of}
use Rattle.published.proofs.Exchange.{Step, comes-to, comes-from}
use Rattle.published.proofs.Enabling.{at_home}
use Rattle.published.proofs.TakenBack.{same-present, Untouched, entry_in, still-led, at_out, on, off, good-u, not_left, left-moved}

module _ (net : Net) (ok : net_rule net ≡ true) (t : Transition) (m : List Bool) (y : Marking) (H : Good net y) (U : Untouched net t m y) where
  abbrev a : Arcs
  a = arcs_of net t

  abbrev s : Marking
  s = U.before

  abbrev u : Marking
  u = undo net.bases (arcs_of net t) m y

  abbrev in-m : ℕ → Bool
  in-m p = moves U.before.bonds (arcs_of net t).entries p

  F : Fit net (arcs_of net t)
  F = fits net ok t U.fires.listed

  -- ---- the bonds after taking back: without the out-bonds, with the in-bonds

  back_from : (β : Bond) → has_bond β u.bonds ≡ true → (has_bond β a.in_bonds ≡ true) ⊎ ((has_bond β y.bonds ≡ true) × (has_bond β a.out_bonds ≡ false))
  back_from β h = go (or-e (has_bond β a.in_bonds && broken_bond a β) (has_bond β y.bonds && not (new_bond a β)) (sym (has-back a y.bonds β) ∙ h))
    where
      go : ((has_bond β a.in_bonds && broken_bond a β) ≡ true) ⊎ ((has_bond β y.bonds && not (new_bond a β)) ≡ true)
          → (has_bond β a.in_bonds ≡ true) ⊎ ((has_bond β y.bonds ≡ true) × (has_bond β a.out_bonds ≡ false))
      go (inl k) = inl (and_l (has_bond β a.in_bonds) (broken_bond a β) k)
      go (inr k) = test (has_bond β a.out_bonds)
          (λ o. inl (not-false (has_bond β a.in_bonds) (rw o at (not-true (new_bond a β) (and_r (has_bond β y.bonds) (not (new_bond a β)) k)))))
          (λ o. inr (and_l (has_bond β y.bonds) (not (new_bond a β)) k, o))

  back_in : (β : Bond) → has_bond β a.in_bonds ≡ true → has_bond β u.bonds ≡ true
  back_in β i = sym (seen_first s u β.lo (on net ok t m y H U β.lo (in-moves net s U.good a F β i).0) β.hi)
      ∙ not-false (has_bond β s.bonds) (any-no (λ (c : Bond). not (has_bond c s.bonds)) a.in_bonds U.fires.present β (has-mem a.in_bonds β i))

  back-stay : (β : Bond) → has_bond β y.bonds ≡ true → has_bond β a.out_bonds ≡ false → has_bond β u.bonds ≡ true
  back-stay β h k = has-back a y.bonds β ∙ or_r (has_bond β a.in_bonds && broken_bond a β) (has_bond β y.bonds && not (new_bond a β)) (rw (h, k))

  -- it is a step along the arcs the other way round
  step : Step net (arcs_of net t) (λ (d : Entry). d.to) (λ (d : Entry). d.from) (arcs_of net t).out_bonds (arcs_of net t).in_bonds y (undo net.bases (arcs_of net t) m y)
  step = record {
    before = H;
    after = good-u net ok t m y H U;
    bases = F.bases;
    from = at_out net ok t m y H U;
    to = λ d n. sym (seen-place s u d.base (on net ok t m y H U d.base (entry_in net ok t m y H U d n))) ∙ at_home a s U.fires.placed d n;
    in-joins = λ β k. let (c, d, J, _) = F.outs β k in (c, d, J);
    out-joins = F.ins;
    removed = back_from;
    added = back_in;
    stay = back-stay;
  }

  reversed24-to : (x : ℕ) (i : Item) → marks_of net u x i → reversed24 (petri_net net) (marks_of net y) t x i
  reversed24-to x i (k, q) = test (in-m (anchor i))
      (λ c.
      let (d, n, l) = still-led net ok t m y H U (anchor i) c in
      let (b, w, takes, puts, con) = comes-to net a (λ (d : Entry). d.to) (λ (d : Entry). d.from) a.out_bonds a.in_bonds y u step x i d n l (k, q) in
      let (_, e, o, _, r) = puts in
      inr (w, b, (rw (← r) (F.to e o), base b, puts), takes, puts, con))
      (λ c.
      let v : view y (anchor i) ≡ view u (anchor i) = off net ok t m y H U (anchor i) c in
      inl ((same-present net u y i (sym v) k, seen-place y u (anchor i) v ∙ q), λ d. both (in-m (anchor i)) (left-moved net ok t m y H U x i d) c))

  reversed24-from : (x : ℕ) (i : Item) → reversed24 (petri_net net) (marks_of net y) t x i → marks_of net u x i
  reversed24-from x i (inl ((k, q), in_place)) = test (in-m (anchor i)) (λ c. absurd (not_left net ok t m y H U x i (k, q) in_place c))
      (λ c. let v : view y (anchor i) ≡ view u (anchor i) = off net ok t m y H U (anchor i) c in (same-present net y u i v k, sym (seen-place y u (anchor i) v) ∙ q))
  reversed24-from x i (inr (w, b, _, takes, puts, con)) = comes-from net a (λ (d : Entry). d.to) (λ (d : Entry). d.from) a.out_bonds a.in_bonds y u step x i (b, w, takes, puts, con)

  pub reversed24-iff : (x : ℕ) (i : Item) → Iff (marks_of net (undo net.bases (arcs_of net t) m y) x i) (reversed24 (petri_net net) (marks_of net y) t x i)
  reversed24-iff x i = (reversed24-to x i, reversed24-from x i)
