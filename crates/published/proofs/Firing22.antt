-- A firing that none of 12 to 16 refuses gives exactly the marking of Definition 22, bases and bonds, place by place, whether it
-- breaks a bond or not. Assumes that the net meets the sheet's rules, and a good marking.
use mathlib.Core.Path.{◌≡◌, refl, sym, ◌∙◌}
use mathlib.Core.Logic.{◌⊎◌, inl, inr}
use mathlib.Core.Bool.{true, false, not, ◌&&◌}
use mathlib.Core.List.{List}
use Prim.Native.Nat.{ℕ}
use borrow.Author.Tests.{not-true, not-false}
use Rattle.causal.proofs.Tests.{test, both}
use Rattle.net.specs.Net.{Arcs, Marking, Net, has_bond, place, arcs_of}
use Rattle.net.specs.Rules.{net_rule}
use Rattle.net.specs.Marking.{Good}
use Rattle.net.specs.Firing.{moves, moved, broken_bond, bonds_seen, fire, Fires}
use Rattle.net.specs.Checks.{clear}
use Rattle.net.specs.Journal.{enable_checks}
use Rattle.net.specs.declared.Bond.{Bond}
use Rattle.net.specs.declared.Entry.{Entry}
use Rattle.net.specs.declared.Transition.{Transition}
use Rattle.net.proofs.Tests.{and_l, and_r, or-e, or_l, or_r}
use Rattle.net.proofs.Moves.{Fit, view, seen-place, mem-moved}
use Rattle.net.proofs.Change.{has-after}
use Rattle.net.proofs.Fire.{fire-good, entry-goes}
use Rattle.net.proofs.Laws.{laws}
use Rattle.net.proofs.Rules.{fits}
use Rattle.net.proofs.Journal.{enabled-fires}
use Rattle.published.specs.Sets.{Iff, Item}
use Rattle.published.specs.Uncoupling.{fired22}
use Rattle.published.specs.Sheets.{anchor, petri_net, marks_of}
use Rattle.published.proofs.Components.{leads-place, con-leads, leads-con}
use Rattle.published.proofs.Exchange.{Step, comes-to, comes-from}
use Rattle.published.proofs.Enabling.{at_home}
use Rattle.published.proofs.Firing.{led-moves, moves-led}
use Rattle.published.proofs.TakenBack.{same-present}

-- ---- the bonds after a firing: without the in-bonds, with the out-bonds

module _ (t : Arcs) (bs : List Bond) (β : Bond) where
  pub after-out : has_bond β t.out_bonds ≡ true → has_bond β (bonds_seen t bs) ≡ true
  after-out o = has-after t bs β ∙ or_l (has_bond β t.out_bonds) (has_bond β bs && not (broken_bond t β)) o

  pub after-stay : has_bond β bs ≡ true → has_bond β t.in_bonds ≡ false → has_bond β (bonds_seen t bs) ≡ true
  after-stay h k = has-after t bs β ∙ or_r (has_bond β t.out_bonds) (has_bond β bs && not (broken_bond t β)) (rw (h, k))

  pub after-from : has_bond β (bonds_seen t bs) ≡ true → (has_bond β t.out_bonds ≡ true) ⊎ ((has_bond β bs ≡ true) × (has_bond β t.in_bonds ≡ false))
  after-from h = go (or-e (has_bond β t.out_bonds) (has_bond β bs && not (broken_bond t β)) (sym (has-after t bs β) ∙ h))
    where
      go : (has_bond β t.out_bonds ≡ true) ⊎ ((has_bond β bs && not (broken_bond t β)) ≡ true) → (has_bond β t.out_bonds ≡ true) ⊎ ((has_bond β bs ≡ true) × (has_bond β t.in_bonds ≡ false))
      go (inl o) = inl o
      go (inr k) = test (has_bond β t.in_bonds)
          (λ i. inl (not-false (has_bond β t.out_bonds) (rw i at (not-true (broken_bond t β) (and_r (has_bond β bs) (not (broken_bond t β)) k)))))
          (λ i. inr (and_l (has_bond β bs) (not (broken_bond t β)) k, i))

module _ (net : Net) (ok : net_rule net ≡ true) (s : Marking) (G : Good net s) (t : Transition) (e : clear (enable_checks net s t) ≡ true) where
  abbrev a : Arcs
  a = arcs_of net t

  abbrev z : Marking
  z = fire net.bases (arcs_of net t) s

  f : Fires net s t (moved net.bases (arcs_of net t) s) (fire net.bases (arcs_of net t) s)
  f = enabled-fires net s t e

  F : Fit net (arcs_of net t)
  F = fits net ok t f.listed

  step : Step net (arcs_of net t) (λ (d : Entry). d.from) (λ (d : Entry). d.to) (arcs_of net t).in_bonds (arcs_of net t).out_bonds s (fire net.bases (arcs_of net t) s)
  step = record {
    before = G;
    after = fire-good net s G a F;
    bases = F.bases;
    from = at_home a s f.placed;
    to = entry-goes net s G a F f.together;
    in-joins = λ β k. let (x, y, J, _) = F.ins β k in (x, y, J);
    out-joins = F.outs;
    removed = after-from a s.bonds;
    added = after-out a s.bonds;
    stay = after-stay a s.bonds;
  }

  -- a base that is not moved looks as before
  same : (p : ℕ) → moves s.bonds a.entries p ≡ false → view s p ≡ view z p
  same p k = (laws net (fits net ok)).frame G f p (mem-moved net s G a F p ∙ k)

  fired22-to : (x : ℕ) (i : Item) → marks_of net z x i → fired22 (petri_net net) (marks_of net s) t x i
  fired22-to x i (u, q) = test (moves s.bonds a.entries (anchor i))
      (λ k. let (d, m, l) = moves-led a s.bonds (anchor i) k in inr (comes-to net a (λ (d : Entry). d.from) (λ (d : Entry). d.to) a.in_bonds a.out_bonds s z step x i d m l (u, q)))
      (λ k.
      let v : view s (anchor i) ≡ view z (anchor i) = same (anchor i) k in
      inl (
        (same-present net z s i (sym v) u, seen-place s z (anchor i) v ∙ q),
        λ (b, (_, d, m, r, _), c).
            both (moves s.bonds a.entries (anchor i)) (led-moves a s.bonds d m (anchor i) (rw r (con-leads net s G x b i c).3)) k,
      ))

  fired22-from : (x : ℕ) (i : Item) → fired22 (petri_net net) (marks_of net s) t x i → marks_of net z x i
  fired22-from x i (inl ((u, q), in_place)) = test (moves s.bonds a.entries (anchor i))
      (λ k.
      let (d, m, l) = moves-led a s.bonds (anchor i) k in
      let r : place s d.base ≡ x = leads-place net s G l ∙ q in
      absurd (in_place (d.base, (tt, d, m, refl, sym (at_home a s f.placed d m) ∙ r), leads-con net s G x d.base i (F.bases d m) r u l)))
      (λ k. let v : view s (anchor i) ≡ view z (anchor i) = same (anchor i) k in (same-present net s z i v u, sym (seen-place s z (anchor i) v) ∙ q))
  fired22-from x i (inr c) = comes-from net a (λ (d : Entry). d.from) (λ (d : Entry). d.to) a.in_bonds a.out_bonds s z step x i c

  pub fired22-iff : (x : ℕ) (i : Item) → Iff (marks_of net (fire net.bases (arcs_of net t) s) x i) (fired22 (petri_net net) (marks_of net s) t x i)
  fired22-iff x i = (fired22-to x i, fired22-from x i)
