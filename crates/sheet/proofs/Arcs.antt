-- One transition of which 7, 8 and 9 do not hold: its arcs keep the rules, and every number in them is within its count.
-- Assumes nothing.
use mathlib.Core.Path.{◌≡◌, refl}
use mathlib.Core.Bool.{Bool, true, false, not, ◌&&◌}
use mathlib.Core.List.{List}
use Prim.Native.Nat.{ℕ, zero, suc, ◌<◌, ◌≤◌}
use native.Mathlib.Omega.{arith}
use lib.Dec.{eqb, ltb}
use lib.ListN.{length}
use borrow.Author.Tests.{ltb-true, ltb-false, lt-ltb, eqb-true, eqb-false, not-false}
use Rattle.causal.specs.Lists.{Mem}
use Rattle.net.specs.Limits.{max_entries}
use Rattle.net.specs.Tests.{all, table}
use Rattle.net.specs.Sorted.{ascends}
use Rattle.net.specs.Net.{less_bond}
use Rattle.net.specs.Rules.{entry_rule, entries_rule, joins, bonds_rule, arcs_bonds_rule, arcs_rule}
use Rattle.net.specs.declared.Bond.{Bond}
use Rattle.net.specs.declared.Entry.{Entry}
use Rattle.net.proofs.Tests.{and_l, and_r, and_i, or-no-l, or-no-r, all-e, any-e}
use Rattle.net.proofs.Tables.{length-table}
use Rattle.format.specs.Bytes.{outside}
use Rattle.format.specs.Arcs.{entry_count, arcs_width, arcs_in}
use Rattle.sheet_arcs.specs.Conditions.{wrong_width, wrong_entries}
use Rattle.sheet_bonds.specs.Conditions.{wrong_bonds}
use Rattle.sheet.specs.Promises.{Within, BondWithin, GoodArcs}

-- ---- tests

-- a count that is not outside is within
pub within : (n max : ℕ) → outside n max ≡ false → Within n max
within n max h =
    let d : n ≡ 0 → ⊥ = eqb-false n 0 (or-no-l (eqb n 0) (ltb max n) h) in
    let k : n ≤ max = ltb-false max n (or-no-r (eqb n 0) (ltb max n) h) in
    (go n d, k)
  where
    go : (n : ℕ) → (n ≡ 0 → ⊥) → 0 < n
    go zero f = absurd (f refl)
    go (suc m) f = omega arith

module _ {X : Type 0} where
  -- what holds of each holds of the table
  pub all-table : (t : X → Bool) (n : ℕ) (f : ℕ → X) → ((k : ℕ) → k < n → t (f k) ≡ true) → all t (table n f) ≡ true
  all-table t zero f h = refl
  all-table t (suc n) f h =
      and_i (t (f zero)) (all t (table n (λ k. f (suc k)))) (h zero (omega arith)) (all-table t n (λ k. f (suc k)) (λ k i. h (suc k) (omega arith)))

-- a bond that joins entries is of bases that are there
fits : (side : Entry → ℕ) (es : List Entry) (bases : ℕ) → ((e : Entry) → Mem e es → e.base < bases) → (b : Bond) → joins side es b ≡ true → BondWithin bases b
fits side es bases f b h =
    let (e, m, p) = any-e _ es (and_r (ltb b.lo b.hi) _ h) in
    let (d, n, q) = any-e _ es (and_r (eqb e.base b.lo) _ p) in
    let r : d.base ≡ b.hi = eqb-true d.base b.hi (and_l _ (eqb (side e) (side d)) q) in
    (ltb-true b.lo b.hi (and_l _ _ h), rw r at (f d n))

-- ---- one transition, by its bytes

module _ (places bases : ℕ) (b : List ℕ) (h7 : wrong_width b ≡ false) (h8 : wrong_entries places bases b ≡ false) (h9 : wrong_bonds b ≡ false) where
  some : Within (entry_count b) max_entries
  unfolding wrong_width
  some = within (entry_count b) max_entries (or-no-r (not (eqb (length b) (arcs_width b))) (outside (entry_count b) max_entries) h7)

  entries : entries_rule places bases (arcs_in b).entries ≡ true
  unfolding wrong_entries
  entries = not-false _ h8

  bonds : arcs_bonds_rule (arcs_in b) ≡ true
  unfolding wrong_bonds
  bonds = not-false _ h9

  pub arcs-rule : arcs_rule places bases (arcs_in b) ≡ true
  arcs-rule = rw (length-table, lt-ltb 0 (entry_count b) some.0, entries, bonds)

  there : (e : Entry) → Mem e (arcs_in b).entries → entry_rule places bases e ≡ true
  there = all-e (entry_rule places bases) (arcs_in b).entries (and_l (all (entry_rule places bases) (arcs_in b).entries) _ entries)

  ins : all (joins (λ (e : Entry). e.from) (arcs_in b).entries) (arcs_in b).in_bonds ≡ true
  ins = and_r (ascends less_bond (arcs_in b).in_bonds) _ (and_l (bonds_rule (λ (e : Entry). e.from) (arcs_in b).entries (arcs_in b).in_bonds) _ bonds)

  outs : all (joins (λ (e : Entry). e.to) (arcs_in b).entries) (arcs_in b).out_bonds ≡ true
  outs = and_r (ascends less_bond (arcs_in b).out_bonds) _
      (and_r (bonds_rule (λ (e : Entry). e.from) (arcs_in b).entries (arcs_in b).in_bonds) _ bonds)

  base_there : (e : Entry) → Mem e (arcs_in b).entries → e.base < bases
  base_there e m = ltb-true e.base bases (and_l (ltb e.base bases) (ltb e.from places && ltb e.to places) (there e m))

  pub good-arcs : GoodArcs places bases (arcs_in b)
  good-arcs = record {
    count = rw length-table some;
    entry = λ e m.
        let h : (ltb e.from places && ltb e.to places) ≡ true = and_r (ltb e.base bases) (ltb e.from places && ltb e.to places) (there e m) in
        (base_there e m, ltb-true e.from places (and_l _ _ h), ltb-true e.to places (and_r (ltb e.from places) (ltb e.to places) h));
    in_bond = λ x m. fits (λ (e : Entry). e.from) (arcs_in b).entries bases base_there x (all-e _ (arcs_in b).in_bonds ins x m);
    out_bond = λ x m. fits (λ (e : Entry). e.to) (arcs_in b).entries bases base_there x (all-e _ (arcs_in b).out_bonds outs x m);
  }
