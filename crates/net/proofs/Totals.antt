-- The totals (01; 02, T-07): good markings at every point of a session, and the number of bonds.
-- Assumes that the net meets the sheet's rules.
use mathlib.Core.Path.{◌≡◌, refl, sym, ◌∙◌, ap}
use mathlib.Core.Logic.{inl, inr}
use mathlib.Core.Bool.{Bool, true, false, not, ◌&&◌, ◌||◌, and-true, and-false}
use mathlib.Core.List.{List, [], ◌∷◌}
use Prim.Native.Nat.{ℕ, suc, ◌+◌}
use native.Mathlib.Omega.{arith}
use lib.ListN.{length}
use borrow.Author.Tests.{not-false}
use Rattle.causal.specs.Lists.{Mem}
use Rattle.causal.specs.Runs.{Run}
use Rattle.causal.proofs.Tests.{both}
use Rattle.causal.proofs.Runs.{run-good}
use Rattle.net.specs.Tests.{pick, count, keep}
use Rattle.net.specs.Sorted.{put, puts, Ascending}
use Rattle.net.specs.Net.{Arcs, Marking, Net, same_bond, less_bond, has_bond, arcs_of}
use Rattle.net.specs.Rules.{net_rule}
use Rattle.net.specs.Marking.{Good}
use Rattle.net.specs.Firing.{in_set, broken_bond, bonds_seen, bond_absent, bond_present, undo, Fires}
use Rattle.net.specs.Journal.{LiveLine, Journal, play, begin}
use Rattle.net.specs.Claims.{new_bonds, all_new_bonds, broken_bonds, all_broken_bonds, Totals}
use Rattle.net.specs.declared.Bond.{Bond}
use Rattle.net.proofs.Tests.{fails, any-no}
use Rattle.net.proofs.Sorted.{has-puts, has-keep, ascending-ext, ascending-puts, ascending-keep}
use Rattle.net.proofs.Bonds.{bond-order, has-mem, mem-has}
use Rattle.net.proofs.Moves.{Fit, view}
use Rattle.net.proofs.Laws.{laws}
use Rattle.net.proofs.Rules.{fits, start-good}
use Rattle.net.proofs.Journal.{Held, played}

-- ---- bonds added in order

length-put : (b : Bond) (l : List Bond) → Ascending same_bond less_bond l → length (put same_bond less_bond b l) ≡ length l + pick (not (has_bond b l)) 1 0
length-put b [] p = refl
length-put b (c ∷ l) p = go (same_bond b c) (less_bond b c) refl (length-put b l p.1)
  where
    go : (x y : Bool) → less_bond b c ≡ y → length (put same_bond less_bond b l) ≡ length l + pick (not (has_bond b l)) 1 0
        → length (pick x (c ∷ l) (pick y (b ∷ c ∷ l) (c ∷ put same_bond less_bond b l))) ≡ suc (length l) + pick (not (x || has_bond b l)) 1 0
    go true y e ih = omega arith
    go false true e ih =
        let away : has_bond b l ≡ false = fails (has_bond b l) (λ h. both (less_bond b b) (bond-order.trans b c b e (p.0 b h)) (bond-order.irrefl b)) in
        rw away (omega arith)
    go false false e ih = omega arith

-- outs: the out-bonds that are still to go in; of these, the in-bonds are there and the others are not
length-puts : (ins outs l : List Bond) → Ascending same_bond less_bond outs → Ascending same_bond less_bond l → ((b : Bond) → Mem b outs → has_bond b ins ≡ has_bond b l)
    → length (puts same_bond less_bond outs l) ≡ length l + count (λ (b : Bond). not (has_bond b ins)) outs
length-puts ins [] l p g h = omega arith
length-puts ins (b ∷ outs) l p g h =
    let fresh : has_bond b outs ≡ false = fails (has_bond b outs) (λ e. both (less_bond b b) (p.0 b e) (bond-order.irrefl b)) in
    let same : has_bond b (puts same_bond less_bond outs l) ≡ has_bond b ins = has-puts same_bond less_bond bond-order b outs l ∙ rw fresh (sym (h b (inl refl))) in
    let ih = length-puts ins outs l p.1 g (λ c m. h c (inr m)) in
    let q = length-put b (puts same_bond less_bond outs l) (ascending-puts same_bond less_bond bond-order outs l g) in
    let q' : length (put same_bond less_bond b (puts same_bond less_bond outs l)) ≡ length (puts same_bond less_bond outs l) + pick (not (has_bond b ins)) 1 0 = rw same at q in
    omega arith

-- ---- one firing

count-keep : (f : Bond → Bool) (l : List Bond) → count (λ (b : Bond). true) (keep f l) ≡ count f l
count-keep f [] = refl
count-keep f (b ∷ l) = go (f b) (count-keep f l)
  where
    go : (x : Bool) → count (λ (c : Bond). true) (keep f l) ≡ count f l → count (λ (c : Bond). true) (pick x (b ∷ keep f l) (keep f l)) ≡ pick x 1 0 + count f l
    go true ih = omega arith
    go false ih = omega arith

-- o: an out-bond, i: an in-bond, h: there before the firing
out_stays : (o i h : Bool) → o ≡ true → (h && not (i && not o)) ≡ h
out_stays true true h e = and-true h
out_stays true false h e = and-true h
out_stays false i h e = both false e refl

gone-back : (o i h : Bool) → (i ≡ true → h ≡ true) → ((i && not o) || (h && not (i && not o))) ≡ h
gone-back true true h f = and-true h
gone-back true false h f = and-true h
gone-back false true h f = sym (f refl)
gone-back false false h f = and-true h

module _ (t : Arcs) (s : Marking) (i : Ascending same_bond less_bond t.in_bonds) (o : Ascending same_bond less_bond t.out_bonds) (g : Ascending same_bond less_bond s.bonds)
    (r14 : bond_absent t s ≡ false) (r15 : bond_present t s ≡ false) where
  -- the bonds without the broken ones, and those
  abbrev left : List Bond
  left = keep (λ (b : Bond). not (broken_bond t b)) s.bonds

  abbrev broken : List Bond
  broken = keep (λ (b : Bond). not (has_bond b t.out_bonds)) t.in_bonds

  left-ascends : Ascending same_bond less_bond left
  left-ascends = ascending-keep same_bond less_bond bond-order (λ (b : Bond). not (broken_bond t b)) s.bonds g

  has_left : (b : Bond) → has_bond b left ≡ (has_bond b s.bonds && not (broken_bond t b))
  has_left b = has-keep same_bond less_bond bond-order (λ (c : Bond). not (broken_bond t c)) b s.bonds

  has-broken : (b : Bond) → has_bond b broken ≡ (has_bond b t.in_bonds && not (has_bond b t.out_bonds))
  has-broken b = has-keep same_bond less_bond bond-order (λ (c : Bond). not (has_bond c t.out_bonds)) b t.in_bonds

  in-there : (b : Bond) → has_bond b t.in_bonds ≡ true → has_bond b s.bonds ≡ true
  in-there b h = not-false (has_bond b s.bonds) (any-no (λ (c : Bond). not (has_bond c s.bonds)) t.in_bonds r14 b (has-mem t.in_bonds b h))

  -- of the out-bonds, the in-bonds are there and the others are not
  agree : (b : Bond) → Mem b t.out_bonds → has_bond b t.in_bonds ≡ has_bond b left
  agree b m = go (has_bond b t.in_bonds) refl (any-no (λ (c : Bond). not (has_bond c t.in_bonds) && has_bond c s.bonds) t.out_bonds r15 b m)
      ∙ sym (has_left b ∙ out_stays (has_bond b t.out_bonds) (has_bond b t.in_bonds) (has_bond b s.bonds) (mem-has t.out_bonds b m))
    where
      go : (x : Bool) → has_bond b t.in_bonds ≡ x → (not (has_bond b t.in_bonds) && has_bond b s.bonds) ≡ false → has_bond b t.in_bonds ≡ has_bond b s.bonds
      go true e f = e ∙ sym (in-there b e)
      go false e f = e ∙ sym (rw e at f)

  put_back : puts same_bond less_bond broken left ≡ s.bonds
  put_back = ascending-ext same_bond less_bond bond-order (puts same_bond less_bond broken left) s.bonds (ascending-puts same_bond less_bond bond-order broken left left-ascends) g
      (λ b. has-puts same_bond less_bond bond-order b broken left ∙ rw (has-broken b, has_left b)
      (gone-back (has_bond b t.out_bonds) (has_bond b t.in_bonds) (has_bond b s.bonds) (in-there b)))

  -- the broken ones are gone
  away : (b : Bond) → Mem b broken → false ≡ has_bond b left
  away b m = sym (has_left b ∙ rw (sym (has-broken b) ∙ mem-has broken b m) (and-false (has_bond b s.bonds)))

  -- a firing adds its new bonds, and removes its broken ones
  fire-count : length (bonds_seen t s.bonds) + broken_bonds t ≡ length s.bonds + new_bonds t
  fire-count =
      let up : length (puts same_bond less_bond t.out_bonds left) ≡ length left + new_bonds t = length-puts t.in_bonds t.out_bonds left o left-ascends agree in
      let down : length (puts same_bond less_bond broken left) ≡ length left + count (λ (b : Bond). true) broken =
      length-puts [] broken left (ascending-keep same_bond less_bond bond-order (λ (b : Bond). not (has_bond b t.out_bonds)) t.in_bonds i) left-ascends away in
      let whole : length (puts same_bond less_bond broken left) ≡ length s.bonds = ap length put_back in
      let all-broken : count (λ (b : Bond). true) broken ≡ broken_bonds t = count-keep (λ (b : Bond). not (has_bond b t.out_bonds)) t.in_bonds in
      omega arith

-- ---- at every point of a session

module _ (net : Net) (ok : net_rule net ≡ true) where
  run-count : (ls : List LiveLine) (s z : Marking) → Good net s → Run (Fires net) s ls z
      → length z.bonds + all_broken_bonds net ls ≡ length s.bonds + all_new_bonds net ls
  run-count [] s z g e = let q : length s.bonds ≡ length z.bonds = ap (λ (x : Marking). length x.bonds) e in omega arith
  run-count (l ∷ ls) s z g r =
      let F = r.1 in
      let t : Arcs = arcs_of net l.transition in
      let f : Fit net t = fits net ok l.transition F.listed in
      let fired : length r.0.bonds ≡ length (bonds_seen t s.bonds) = ap (λ (x : Marking). length x.bonds) F.gives in
      let one = fire-count t s f.rising_in f.rising g.order F.present F.absent in
      let ih = run-count ls r.0 z ((laws net (fits net ok)).good g F) r.2 in
      omega arith

  pub held-totals : (j : Journal) → Held net j → Totals net j
  held-totals j H = record {
    good = run-good in_set view (Good net) (Fires net) (λ s t m. undo net.bases (arcs_of net t) m s) (laws net (fits net ok)) j.lines net.start j.marking (start-good net ok) H.run;
    bonds = run-count j.lines net.start j.marking (start-good net ok) H.run;
  }

  pub totals : (cs : List (List ℕ)) → Totals net (play net cs (begin net))
  totals cs = held-totals (play net cs (begin net)) (played net ok cs)
