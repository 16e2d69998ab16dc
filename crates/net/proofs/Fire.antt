-- Firing: what it does to each base and bond, that it keeps a marking good, and that it depends on the moved bases alone.
-- Assumes nothing.
use mathlib.Core.Path.{◌≡◌, sym, ◌∙◌, ap, fun_ext}
use mathlib.Core.Logic.{◌⊎◌, inl, inr}
use mathlib.Core.Bool.{Bool, true, false, not, ◌&&◌, ◌||◌}
use Prim.Native.Nat.{ℕ, ◌<◌}
use native.Mathlib.Omega.{arith}
use lib.Dec.{eqb}
use lib.ListN.{get_or-eq_default}
use Rattle.causal.specs.Lists.{Mem}
use Rattle.causal.proofs.Tests.{test, both}
use Rattle.net.specs.Tests.{any, keep, table}
use Rattle.net.specs.Net.{Arcs, Marking, Net, bond, same_bond, less_bond, has_bond, place, written}
use Rattle.net.specs.Connection.{connected, label}
use Rattle.net.specs.Marking.{Good}
use Rattle.net.specs.Firing.{moves, moved, broken_bond, bonds_seen, misplaced, bond_absent, bond_present, torn_apart, sent, fire}
use Rattle.net.specs.declared.Bond.{Bond}
use Rattle.net.specs.declared.Entry.{Entry}
use Rattle.net.proofs.Tests.{fails, any-cong}
use Rattle.net.proofs.Tables.{length-table, get_d-table-all}
use Rattle.net.proofs.Sorted.{ascending-puts, ascending-keep}
use Rattle.net.proofs.Bonds.{bond-order, mem-has}
use Rattle.net.proofs.Connection.{leads-label, bond-leads, connected-alike}
use Rattle.net.proofs.Moves.{sent-cong, sent-none, sent_is, sent-on, sent-below, Fit, view, see, seen-place, seen_first, seen-second, seen-bonded, entry-moves, closed, moves-range, in-moves, out-moves}
use Rattle.net.proofs.Change.{has-after, after-e, closed_after, none_after, moves-after}
use Rattle.net.proofs.Uncoupling.{torn-no}
use Rattle.net.proofs.Written.{has_right}

module _ (net : Net) (s : Marking) (G : Good net s) (t : Arcs) (F : Fit net t) where
  pub place-fire : (p : ℕ) → place (fire net.bases t s) p ≡ sent (λ (e : Entry). e.to) (bonds_seen t s.bonds) t.entries p (place s p)
  place-fire p = get_d-table-all net.bases (λ k. sent (λ (e : Entry). e.to) (bonds_seen t s.bonds) t.entries k (place s k)) 0 p (λ h.
      sent-none (λ (e : Entry). e.to) (bonds_seen t s.bonds) t.entries p (place s p)
      (none_after net s G t F p (fails (moves s.bonds t.entries p) (λ k. let l = moves-range net s G t F p k in omega arith)))
      ∙ get_or-eq_default s.places 0 (rw G.size h))

  pub has-fire : (b : Bond) → has_bond b (fire net.bases t s).bonds ≡ (has_bond b t.out_bonds || (has_bond b s.bonds && not (broken_bond t b)))
  has-fire b = has-after t s.bonds b

  -- bonded bases are connected to the same entries, so they go to one place
  fire-share : (b : Bond) → has_bond b (bonds_seen t s.bonds) ≡ true → place (fire net.bases t s) b.lo ≡ place (fire net.bases t s) b.hi
  fire-share b h = place-fire b.lo ∙ test (moves s.bonds t.entries b.lo)
      (λ k. sent-on (λ (e : Entry). e.to) (bonds_seen t s.bonds) t.entries b.lo b.hi (place s b.lo) (place s b.hi) (moves-after net s G t F b.lo k) one)
      (λ k. sent-cong (λ (e : Entry). e.to) (bonds_seen t s.bonds) (bonds_seen t s.bonds) t.entries b.lo b.hi (place s b.lo) (place s b.hi)
      (λ e _. one e) (old k (after-e t s.bonds b h)))
      ∙ sym (place-fire b.hi)
    where
      one : (e : Entry) → connected (bonds_seen t s.bonds) e.base b.lo ≡ connected (bonds_seen t s.bonds) e.base b.hi
      one e = ap (λ (r : ℕ). eqb (label (bonds_seen t s.bonds) e.base) r)
          (leads-label {bs = bonds_seen t s.bonds} {p = b.lo} {q = b.hi} (bond-leads (bonds_seen t s.bonds) b h))

      old : moves s.bonds t.entries b.lo ≡ false → (has_bond b t.out_bonds ≡ true) ⊎ (has_bond b s.bonds ≡ true) → place s b.lo ≡ place s b.hi
      old k (inl x) = both (moves s.bonds t.entries b.lo) (out-moves net s G t F b x).0 k
      old k (inr x) = G.share b x

  fire-range : (b : Bond) → (has_bond b t.out_bonds ≡ true) ⊎ (has_bond b s.bonds ≡ true) → (b.lo < b.hi) × (b.hi < net.bases)
  fire-range b (inl h) = let (u, v) = out-moves net s G t F b h in (F.low b h, moves-range net s G t F b.hi v)
  fire-range b (inr h) = G.range b h

  fire-listed : (b : Bond) → (has_bond b t.out_bonds ≡ true) ⊎ (has_bond b s.bonds ≡ true) → has_bond b (written net) ≡ true
  fire-listed b (inl h) = F.listed b (has_right t.in_bonds t.out_bonds b h)
  fire-listed b (inr h) = G.listed b h

  fire-within : (p : ℕ) → p < net.bases → place (fire net.bases t s) p < net.places
  fire-within p h = rw (place-fire p) (sent-below (λ (e : Entry). e.to) (bonds_seen t s.bonds) t.entries p (place s p) net.places F.to (G.within p h))

  pub fire-good : Good net (fire net.bases t s)
  fire-good = record {
    size = length-table net.bases (λ p. sent (λ (e : Entry). e.to) (bonds_seen t s.bonds) t.entries p (place s p));
    within = fire-within;
    order = ascending-puts same_bond less_bond bond-order t.out_bonds (keep (λ (b : Bond). not (broken_bond t b)) s.bonds)
        (ascending-keep same_bond less_bond bond-order (λ (b : Bond). not (broken_bond t b)) s.bonds G.order);
    range = λ b h. fire-range b (after-e t s.bonds b h);
    share = fire-share;
    listed = λ b h. fire-listed b (after-e t s.bonds b h);
  }

module _ (net : Net) (s : Marking) (G : Good net s) (t : Arcs) (F : Fit net t) (way : torn_apart t s ≡ false) where
  -- entries that are connected after the firing have one out-place
  pub one_way : (e d : Entry) → Mem e t.entries → Mem d t.entries → connected (bonds_seen t s.bonds) e.base d.base ≡ true → e.to ≡ d.to
  one_way = torn-no t (bonds_seen t s.bonds) way

  -- an entry's base goes to the entry's out-place
  pub entry-goes : (d : Entry) → Mem d t.entries → place (fire net.bases t s) d.base ≡ d.to
  entry-goes d h = place-fire net s G t F d.base
      ∙ sent_is (λ (e : Entry). e.to) (bonds_seen t s.bonds) t.entries d.base (place s d.base) d.to
      (moves-after net s G t F d.base (entry-moves net s G t F d h)) (λ e k c. one_way e d k h c)

-- ---- two markings that look alike on the moved bases of one

module _ (net : Net) (s : Marking) (G : Good net s) (z : Marking) (t : Arcs) (F : Fit net t)
    (like : (p : ℕ) → moves s.bonds t.entries p ≡ true → view s p ≡ view z p) where
  connected-like : (e : Entry) → Mem e t.entries → (q : ℕ) → connected s.bonds e.base q ≡ connected z.bonds e.base q
  connected-like e h q =
      connected-alike (moves s.bonds t.entries) s.bonds z.bonds (closed net s G t F) (λ p r k. seen-bonded s z p (like p k) r) e.base q (entry-moves net s G t F e h)

  moves-like : (p : ℕ) → moves s.bonds t.entries p ≡ moves z.bonds t.entries p
  moves-like p = any-cong (λ (e : Entry). connected s.bonds e.base p) (λ (e : Entry). connected z.bonds e.base p) t.entries (λ e h. connected-like e h p)

  pub moved-like : moved net.bases t s ≡ moved net.bases t z
  moved-like = ap (table net.bases) (fun_ext moves-like)

  -- a bond of an entry's base
  has-like : (b : Bond) → moves s.bonds t.entries b.lo ≡ true → has_bond b s.bonds ≡ has_bond b z.bonds
  has-like b h = seen_first s z b.lo (like b.lo h) b.hi

  pub misplaced-like : misplaced t s ≡ misplaced t z
  misplaced-like = any-cong (λ (e : Entry). not (eqb (place s e.base) e.from)) (λ (e : Entry). not (eqb (place z e.base) e.from)) t.entries
      (λ e h. rw (seen-place s z e.base (like e.base (entry-moves net s G t F e h))))

  pub bond_absent-like : bond_absent t s ≡ bond_absent t z
  bond_absent-like = any-cong (λ (b : Bond). not (has_bond b s.bonds)) (λ (b : Bond). not (has_bond b z.bonds)) t.in_bonds
      (λ b h. ap not (has-like b (in-moves net s G t F b (mem-has t.in_bonds b h)).0))

  pub bond_present-like : bond_present t s ≡ bond_present t z
  bond_present-like = any-cong (λ (b : Bond). not (has_bond b t.in_bonds) && has_bond b s.bonds) (λ (b : Bond). not (has_bond b t.in_bonds) && has_bond b z.bonds) t.out_bonds
      (λ b h. ap (λ (x : Bool). not (has_bond b t.in_bonds) && x) (has-like b (out-moves net s G t F b (mem-has t.out_bonds b h)).0))

  -- the bonds after the firing connect the entries' bases to the same bases
  connected-after : (e : Entry) → Mem e t.entries → (q : ℕ) → connected (bonds_seen t s.bonds) e.base q ≡ connected (bonds_seen t z.bonds) e.base q
  connected-after e h q =
      connected-alike (moves s.bonds t.entries) (bonds_seen t s.bonds) (bonds_seen t z.bonds) (closed_after net s G t F)
      (λ p r k. rw (has-after t s.bonds (bond p r), has-after t s.bonds (bond r p), seen_first s z p (like p k) r, seen-second s z p (like p k) r, ← has-after t z.bonds (bond p r), ← has-after t z.bonds (bond r p)))
      e.base q (entry-moves net s G t F e h)

  pub torn_apart-like : torn_apart t s ≡ torn_apart t z
  torn_apart-like = any-cong (torn s) (torn z) t.entries (λ e h.
      any-cong (λ (d : Entry). connected (bonds_seen t s.bonds) e.base d.base && not (eqb e.to d.to))
      (λ (d : Entry). connected (bonds_seen t z.bonds) e.base d.base && not (eqb e.to d.to)) t.entries
      (λ d k. ap (λ (x : Bool). x && not (eqb e.to d.to)) (connected-after e h d.base)))
    where
      torn : Marking → Entry → Bool
      torn w e = any (λ (d : Entry). connected (bonds_seen t w.bonds) e.base d.base && not (eqb e.to d.to)) t.entries

  pub fire-like : Good net z → (p : ℕ) → moves s.bonds t.entries p ≡ true → view (fire net.bases t s) p ≡ view (fire net.bases t z) p
  fire-like G' p h =
      let v : view s p ≡ view z p = like p h in
      see (fire net.bases t s) (fire net.bases t z) p
      (place-fire net s G t F p ∙ sent-cong (λ (e : Entry). e.to) (bonds_seen t s.bonds) (bonds_seen t z.bonds) t.entries p p (place s p) (place z p) (λ e k. connected-after e k p) (seen-place s z p v)
      ∙ sym (place-fire net z G' t F p))
      (λ q. has-fire net s G t F (bond p q) ∙ rw (seen_first s z p v q) (sym (has-fire net z G' t F (bond p q))))
      (λ q. has-fire net s G t F (bond q p) ∙ rw (seen-second s z p v q) (sym (has-fire net z G' t F (bond q p))))
