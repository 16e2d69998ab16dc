-- Taking back: where the moved bases look as the firing left them, they get their old look, and nothing else changes.
-- Assumes nothing.
use mathlib.Core.Path.{◌≡◌, refl, sym, ◌∙◌}
use mathlib.Core.Logic.{◌⊎◌, inl, inr}
use mathlib.Core.Bool.{Bool, true, false, not, ◌&&◌, ◌||◌, and-true}
use mathlib.Core.List.{List}
use Prim.Native.Nat.{ℕ, ◌<◌}
use native.Mathlib.Omega.{arith}
use lib.Dec.{eqb}
use lib.ListN.{get_or-eq_default}
use borrow.Author.Tests.{eqb-true, not-false}
use Rattle.causal.specs.Lists.{Mem}
use Rattle.causal.proofs.Tests.{test, both}
use Rattle.net.specs.Tests.{pick, keep}
use Rattle.net.specs.Net.{Arcs, Marking, Net, bond, same_bond, less_bond, has_bond, place, written}
use Rattle.net.specs.Connection.{connected}
use Rattle.net.specs.Marking.{Good}
use Rattle.net.specs.Firing.{in_set, moves, moved, broken_bond, misplaced, bond_absent, bond_present, sent, fire, new_bond, bonds_back, undo}
use Rattle.net.specs.declared.Bond.{Bond}
use Rattle.net.specs.declared.Entry.{Entry}
use Rattle.net.proofs.Tests.{fails, and_l, or-e, or_l, or_r, pick-case, any-no, any-cong}
use Rattle.net.proofs.Tables.{length-table, get_d-table-all}
use Rattle.net.proofs.Sorted.{has-puts, has-keep, ascending-puts, ascending-keep}
use Rattle.net.proofs.Bonds.{bond-order, has-mem}
use Rattle.net.proofs.Connection.{connected-leads, connected-alike}
use Rattle.net.proofs.Moves.{sent_is, sent-below, Fit, view, see, seen_first, seen-second, entry-moves, closed, moves-range, mem-moved, in-moves, out-moves, leads-share}
use Rattle.net.proofs.Fire.{has-fire}
use Rattle.net.proofs.Written.{has_left}

-- what is there before the firing, from what is there after it: o out-bond, i in-bond, h there before
undo-test : (o i h : Bool) → (o ≡ true → (not i && h) ≡ false) → (i ≡ true → not h ≡ false)
    → (i && (i && not o) || (o || (h && not (i && not o))) && not (o && not i)) ≡ h
undo-test true true h f g = sym (not-false h (g refl))
undo-test true false true f g = sym (f refl)
undo-test true false false f g = refl
undo-test false true h f g = sym (not-false h (g refl))
undo-test false false true f g = refl
undo-test false false false f g = refl

pub has-back : (t : Arcs) (bs : List Bond) (b : Bond) → has_bond b (bonds_back t bs) ≡ (has_bond b t.in_bonds && broken_bond t b || has_bond b bs && not (new_bond t b))
has-back t bs b = has-puts same_bond less_bond bond-order b (keep (broken_bond t) t.in_bonds) (keep (λ (c : Bond). not (new_bond t c)) bs)
    ∙ rw (has-keep same_bond less_bond bond-order (broken_bond t) b t.in_bonds, has-keep same_bond less_bond bond-order (λ (c : Bond). not (new_bond t c)) b bs)

-- s is fired, and y looks like the result on the moved bases
module _ (net : Net) (s : Marking) (G : Good net s) (t : Arcs) (F : Fit net t) (r13 : misplaced t s ≡ false) (r14 : bond_absent t s ≡ false) (r15 : bond_present t s ≡ false)
    (y : Marking) (H : Good net y) (like : (p : ℕ) → moves s.bonds t.entries p ≡ true → view (fire net.bases t s) p ≡ view y p) where
  abbrev u : Marking
  u = undo net.bases t (moved net.bases t s) y

  has-undo : (b : Bond) → has_bond b u.bonds ≡ (has_bond b t.in_bonds && broken_bond t b || has_bond b y.bonds && not (new_bond t b))
  has-undo b = has-back t y.bonds b

  has_on : (b : Bond) → has_bond b (fire net.bases t s).bonds ≡ has_bond b y.bonds → has_bond b s.bonds ≡ has_bond b u.bonds
  has_on b e = sym (has-undo b ∙ rw (← e, has-fire net s G t F b) (undo-test (has_bond b t.out_bonds) (has_bond b t.in_bonds) (has_bond b s.bonds)
      (λ h. any-no (λ (c : Bond). not (has_bond c t.in_bonds) && has_bond c s.bonds) t.out_bonds r15 b (has-mem t.out_bonds b h))
      (λ h. any-no (λ (c : Bond). not (has_bond c s.bonds)) t.in_bonds r14 b (has-mem t.in_bonds b h))))

  has-off : (b : Bond) → (moves s.bonds t.entries b.lo ≡ false) ⊎ (moves s.bonds t.entries b.hi ≡ false) → has_bond b y.bonds ≡ has_bond b u.bonds
  has-off b h = sym (has-undo b ∙ rw (no-out h, no-in h) (and-true (has_bond b y.bonds)))
    where
      no-out : (moves s.bonds t.entries b.lo ≡ false) ⊎ (moves s.bonds t.entries b.hi ≡ false) → has_bond b t.out_bonds ≡ false
      no-out (inl k) = fails (has_bond b t.out_bonds) (λ x. both (moves s.bonds t.entries b.lo) (out-moves net s G t F b x).0 k)
      no-out (inr k) = fails (has_bond b t.out_bonds) (λ x. both (moves s.bonds t.entries b.hi) (out-moves net s G t F b x).1 k)

      no-in : (moves s.bonds t.entries b.lo ≡ false) ⊎ (moves s.bonds t.entries b.hi ≡ false) → has_bond b t.in_bonds ≡ false
      no-in (inl k) = fails (has_bond b t.in_bonds) (λ x. both (moves s.bonds t.entries b.lo) (in-moves net s G t F b x).0 k)
      no-in (inr k) = fails (has_bond b t.in_bonds) (λ x. both (moves s.bonds t.entries b.hi) (in-moves net s G t F b x).1 k)

  first_on : (p : ℕ) → moves s.bonds t.entries p ≡ true → (q : ℕ) → has_bond (bond p q) s.bonds ≡ has_bond (bond p q) u.bonds
  first_on p h q = has_on (bond p q) (seen_first (fire net.bases t s) y p (like p h) q)

  second-on : (p : ℕ) → moves s.bonds t.entries p ≡ true → (q : ℕ) → has_bond (bond q p) s.bonds ≡ has_bond (bond q p) u.bonds
  second-on p h q = has_on (bond q p) (seen-second (fire net.bases t s) y p (like p h) q)

  connected-undo : (e : Entry) → Mem e t.entries → (q : ℕ) → connected s.bonds e.base q ≡ connected u.bonds e.base q
  connected-undo e h q = connected-alike (moves s.bonds t.entries) s.bonds u.bonds (closed net s G t F) (λ p r k. rw (first_on p k r, second-on p k r)) e.base q (entry-moves net s G t F e h)

  -- the entries' bases were at their in-places, and what was connected to them with them
  home : (e : Entry) (p : ℕ) → Mem e t.entries → connected s.bonds e.base p ≡ true → e.from ≡ place s p
  home e p h c = sym (eqb-true (place s e.base) e.from (not-false (eqb (place s e.base) e.from) (any-no (λ (d : Entry). not (eqb (place s d.base) d.from)) t.entries r13 e h)))
      ∙ leads-share net s G t F (connected-leads s.bonds e.base p c)

  place-undo : (p : ℕ) → place u p ≡ pick (moves s.bonds t.entries p) (sent (λ (e : Entry). e.from) u.bonds t.entries p (place y p)) (place y p)
  place-undo p = get_d-table-all net.bases (λ k. pick (in_set (moved net.bases t s) k) (sent (λ (e : Entry). e.from) u.bonds t.entries k (place y k)) (place y k)) 0 p
      (λ h. rw (mem-moved net s G t F p, fails (moves s.bonds t.entries p) (λ k. let l = moves-range net s G t F p k in omega arith)) (get_or-eq_default y.places 0 (rw H.size h)))
      ∙ rw (mem-moved net s G t F p)

  place-on : (p : ℕ) → moves s.bonds t.entries p ≡ true → place s p ≡ place u p
  place-on p h = sym (place-undo p ∙ rw h (sent_is (λ (e : Entry). e.from) u.bonds t.entries p (place y p) (place s p)
      (sym (any-cong (λ (e : Entry). connected s.bonds e.base p) (λ (e : Entry). connected u.bonds e.base p) t.entries (λ e k. connected-undo e k p)) ∙ h)
      (λ e k c. home e p k (connected-undo e k p ∙ c))))

  place-off : (p : ℕ) → moves s.bonds t.entries p ≡ false → place y p ≡ place u p
  place-off p h = sym (place-undo p ∙ rw h)

  pub undo-on : (p : ℕ) → moves s.bonds t.entries p ≡ true → view s p ≡ view u p
  undo-on p h = see s u p (place-on p h) (first_on p h) (second-on p h)

  pub undo-off : (p : ℕ) → moves s.bonds t.entries p ≡ false → view y p ≡ view u p
  undo-off p h = see y u p (place-off p h) (λ q. has-off (bond p q) (inl h)) (λ q. has-off (bond q p) (inr h))

  undo-share : (b : Bond) → has_bond b u.bonds ≡ true → place u b.lo ≡ place u b.hi
  undo-share b h = test (moves s.bonds t.entries b.lo)
      (λ k. let o : has_bond b s.bonds ≡ true = first_on b.lo k b.hi ∙ h in
      sym (place-on b.lo k) ∙ G.share b o ∙ place-on b.hi (closed net s G t F b.lo b.hi k (or_l (has_bond b s.bonds) (has_bond (bond b.hi b.lo) s.bonds) o)))
      (λ k. test (moves s.bonds t.entries b.hi)
      (λ l. let o : has_bond b s.bonds ≡ true = second-on b.hi l b.lo ∙ h in
      both (moves s.bonds t.entries b.lo) (closed net s G t F b.hi b.lo l (or_r (has_bond (bond b.hi b.lo) s.bonds) (has_bond b s.bonds) o)) k)
      (λ l. sym (place-off b.lo k) ∙ H.share b (has-off b (inl k) ∙ h) ∙ place-off b.hi l))

  undo-within : (p : ℕ) → p < net.bases → place u p < net.places
  undo-within p h = rw (place-undo p) (pick-case (λ (x : ℕ). x < net.places) (moves s.bonds t.entries p) _ _
      (λ k. sent-below (λ (e : Entry). e.from) u.bonds t.entries p (place y p) net.places F.from (H.within p h)) (λ k. H.within p h))

  undo-range : (b : Bond) → ((has_bond b t.in_bonds && broken_bond t b) ≡ true) ⊎ ((has_bond b y.bonds && not (new_bond t b)) ≡ true) → (b.lo < b.hi) × (b.hi < net.bases)
  undo-range b (inl h) =
      let i : has_bond b t.in_bonds ≡ true = and_l (has_bond b t.in_bonds) (broken_bond t b) h in
      (F.low_in b i, moves-range net s G t F b.hi (in-moves net s G t F b i).1)
  undo-range b (inr h) = H.range b (and_l (has_bond b y.bonds) (not (new_bond t b)) h)

  undo-listed : (b : Bond) → ((has_bond b t.in_bonds && broken_bond t b) ≡ true) ⊎ ((has_bond b y.bonds && not (new_bond t b)) ≡ true) → has_bond b (written net) ≡ true
  undo-listed b (inl h) = F.listed b (has_left t.in_bonds t.out_bonds b (and_l (has_bond b t.in_bonds) (broken_bond t b) h))
  undo-listed b (inr h) = H.listed b (and_l (has_bond b y.bonds) (not (new_bond t b)) h)

  pub undo-good : Good net u
  undo-good = record {
    size = length-table net.bases (λ p. pick (in_set (moved net.bases t s) p) (sent (λ (e : Entry). e.from) u.bonds t.entries p (place y p)) (place y p));
    within = undo-within;
    order = ascending-puts same_bond less_bond bond-order (keep (broken_bond t) t.in_bonds) (keep (λ (b : Bond). not (new_bond t b)) y.bonds)
        (ascending-keep same_bond less_bond bond-order (λ (b : Bond). not (new_bond t b)) y.bonds H.order);
    range = λ b h. undo-range b (or-e (has_bond b t.in_bonds && broken_bond t b) (has_bond b y.bonds && not (new_bond t b)) (sym (has-undo b) ∙ h));
    share = undo-share;
    listed = λ b h. undo-listed b (or-e (has_bond b t.in_bonds && broken_bond t b) (has_bond b y.bonds && not (new_bond t b)) (sym (has-undo b) ∙ h));
  }
