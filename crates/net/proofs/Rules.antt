-- What the sheet's rules give: a good start, and arcs that fit the net, for each transition on the sheet.
-- Assumes nothing.
use mathlib.Core.Path.{◌≡◌}
use mathlib.Core.Bool.{Bool, true, ◌&&◌}
use mathlib.Core.List.{List}
use Prim.Native.Nat.{ℕ, ◌<◌}
use lib.Dec.{eqb, ltb}
use lib.ListN.{length}
use borrow.Author.Tests.{eqb-true, ltb-true}
use Rattle.causal.specs.Lists.{Mem}
use Rattle.net.specs.Tests.{all, any}
use Rattle.net.specs.Sorted.{ascends}
use Rattle.net.specs.Net.{Arcs, Net, same_bond, less_bond, has_bond, no_arcs, arcs_of, arcs_bonds, written}
use Rattle.net.specs.Rules.{start_places_rule, start_bond_rule, start_bonds_rule, entry_rule, entries_rule, joins, bonds_rule, arcs_bonds_rule, arcs_rule, net_rule}
use Rattle.net.specs.Marking.{Good}
use Rattle.net.specs.declared.Bond.{Bond}
use Rattle.net.specs.declared.Entry.{Entry}
use Rattle.net.specs.declared.Transition.{Transition}
use Rattle.net.proofs.Tests.{and_l, and_r, all-e, any-e, all-at}
use Rattle.net.proofs.Sorted.{ascends-all}
use Rattle.net.proofs.Bonds.{bond-order, has-mem}
use Rattle.net.proofs.Moves.{Joins, Fit}
use Rattle.net.proofs.Written.{arcs-written, start-written}

-- ---- a transition

-- the entries that a bond joins
pub joins-e : (side : Entry → ℕ) (t : Arcs) (b : Bond) → joins side t.entries b ≡ true → (e : Entry) × (d : Entry) × Joins t b e d × (side e ≡ side d)
joins-e side t b h =
    let inner : Entry → Entry → Bool = λ e d. eqb d.base b.hi && eqb (side e) (side d) in
    let outer : Entry → Bool = λ e. eqb e.base b.lo && any (inner e) t.entries in
    let (e, m, p) = any-e outer t.entries (and_r (ltb b.lo b.hi) (any outer t.entries) h) in
    let (d, k, q) = any-e (inner e) t.entries (and_r (eqb e.base b.lo) (any (inner e) t.entries) p) in (
      e,
      d,
      record {
        first = m;
        second = k;
        lo = eqb-true e.base b.lo (and_l (eqb e.base b.lo) (any (inner e) t.entries) p);
        hi = eqb-true d.base b.hi (and_l (eqb d.base b.hi) (eqb (side e) (side d)) q);
      },
      eqb-true (side e) (side d) (and_r (eqb d.base b.hi) (eqb (side e) (side d)) q),
    )

-- a bond of a list that passes its rule
pub rule-joins : (side : Entry → ℕ) (es : List Entry) (bs : List Bond) → bonds_rule side es bs ≡ true → (b : Bond) → has_bond b bs ≡ true → joins side es b ≡ true
rule-joins side es bs h b k = all-e (joins side es) bs (and_r (ascends less_bond bs) (all (joins side es) bs) h) b (has-mem bs b k)

pub arcs-fit : (net : Net) (t : Arcs) → arcs_rule net.places net.bases t ≡ true → ((b : Bond) → has_bond b (arcs_bonds t) ≡ true → has_bond b (written net) ≡ true) → Fit net t
arcs-fit net t h w =
    let rest = and_r (ltb 0 (length t.entries)) (entries_rule net.places net.bases t.entries && arcs_bonds_rule t) h in
    let entries : entries_rule net.places net.bases t.entries ≡ true = and_l _ _ rest in
    let bonds : arcs_bonds_rule t ≡ true = and_r (entries_rule net.places net.bases t.entries) _ rest in
    let ins : bonds_rule (λ (e : Entry). e.from) t.entries t.in_bonds ≡ true = and_l _ _ bonds in
    let outs : bonds_rule (λ (e : Entry). e.to) t.entries t.out_bonds ≡ true = and_r (bonds_rule (λ (e : Entry). e.from) t.entries t.in_bonds) _ bonds in
    let each : (e : Entry) → Mem e t.entries → entry_rule net.places net.bases e ≡ true = all-e (entry_rule net.places net.bases) t.entries (and_l _ _ entries) in
    let places : (e : Entry) → Mem e t.entries → (ltb e.from net.places && ltb e.to net.places) ≡ true = λ e m. and_r (ltb e.base net.bases) _ (each e m) in
    record {
      bases = λ e m. ltb-true e.base net.bases (and_l _ _ (each e m));
      from = λ e m. ltb-true e.from net.places (and_l _ _ (places e m));
      to = λ e m. ltb-true e.to net.places (and_r (ltb e.from net.places) _ (places e m));
      ins = λ b k. joins-e (λ (x : Entry). x.from) t b (rule-joins (λ (x : Entry). x.from) t.entries t.in_bonds ins b k);
      low_in = λ b k. ltb-true b.lo b.hi (and_l _ _ (rule-joins (λ (x : Entry). x.from) t.entries t.in_bonds ins b k));
      rising_in = ascends-all same_bond less_bond bond-order t.in_bonds (and_l _ _ ins);
      outs = λ b k. joins-e (λ (x : Entry). x.to) t b (rule-joins (λ (x : Entry). x.to) t.entries t.out_bonds outs b k);
      low = λ b k. ltb-true b.lo b.hi (and_l _ _ (rule-joins (λ (x : Entry). x.to) t.entries t.out_bonds outs b k));
      rising = ascends-all same_bond less_bond bond-order t.out_bonds (and_l _ _ outs);
      listed = w;
    }

-- ---- the net

module _ (net : Net) (ok : net_rule net ≡ true) where
  bonds-ok : (start_bonds_rule net.bases net.start && all (arcs_rule net.places net.bases) net.transitions) ≡ true
  bonds-ok = and_r (start_places_rule net.places net.bases net.start.places) _ ok

  pub fits : (t : Transition) → t.0 < length net.transitions → Fit net (arcs_of net t)
  fits t h = arcs-fit net (arcs_of net t) (all-at (arcs_rule net.places net.bases) net.transitions no_arcs t.0 (and_r (start_bonds_rule net.bases net.start) _ bonds-ok) h) (λ b. arcs-written net t b h)

  pub start-good : Good net net.start
  start-good =
      let places : start_places_rule net.places net.bases net.start.places ≡ true = and_l _ _ ok in
      let size : length net.start.places ≡ net.bases = eqb-true _ _ (and_l _ _ places) in
      let bonds : start_bonds_rule net.bases net.start ≡ true = and_l _ _ bonds-ok in
      let each : (b : Bond) → has_bond b net.start.bonds ≡ true → start_bond_rule net.bases net.start b ≡ true =
      λ b k. all-e (start_bond_rule net.bases net.start) net.start.bonds (and_r (ascends less_bond net.start.bonds) _ bonds) b (has-mem net.start.bonds b k) in
      record {
        size = size;
        within = λ p h. ltb-true _ _ (all-at (λ (x : ℕ). ltb x net.places) net.start.places 0 p (and_r (eqb (length net.start.places) net.bases) _ places) (rw size h));
        order = ascends-all same_bond less_bond bond-order net.start.bonds (and_l _ _ bonds);
        range = λ b k. (ltb-true b.lo b.hi (and_l _ _ (each b k)), ltb-true b.hi net.bases (and_l _ _ (and_r (ltb b.lo b.hi) _ (each b k))));
        share = λ b k. eqb-true _ _ (and_r (ltb b.hi net.bases) _ (and_r (ltb b.lo b.hi) _ (each b k)));
        listed = λ b k. start-written net b k;
      }
