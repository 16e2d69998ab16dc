-- What follows where a transition and a marking are ready: room for the bonds, and bases within the arrays.
-- Assumes nothing.
use mathlib.Core.Path.{◌≡◌, sym, ◌∙◌, ap}
use mathlib.Core.Bool.{true, not}
use mathlib.Core.List.{List}
use Prim.Native.Nat.{ℕ, ◌<◌, ◌≤◌}
use native.Mathlib.Nat.{le_trans}
use native.Mathlib.Omega.{arith}
use lib.Dec.{eqb}
use lib.ListN.{length, get_or, take, length-take}
use lib.Seq.{get_or-take}
use Rattle.causal.specs.Lists.{Mem}
use Rattle.net.specs.Limits.{max_bases, max_bonds}
use Rattle.net.specs.Tests.{any}
use Rattle.net.specs.Sorted.{Ascending, puts}
use Rattle.net.specs.Net.{Arcs, same_bond, less_bond, has_bond, arcs_bonds, place}
use Rattle.net.specs.Firing.{misplaced}
use Rattle.net.specs.declared.Bond.{Bond}
use Rattle.net.specs.declared.Entry.{Entry}
use Rattle.net.proofs.Tests.{any-cong}
use Rattle.net.proofs.Tables.{length-table}
use Rattle.net.proofs.Bonds.{mem-has}
use Rattle.net.proofs.Written.{puts-right}
use Rattle.net.proofs.Pairs.{few-among}
use Rattle.format.specs.Arcs.{arcs_in, entry_count, nth_entry, out_count, nth_out_bond}
use Rattle.bonds.specs.Ends.{ends}
use Rattle.bonds.proofs.Fill.{mem-table}
use Rattle.labels.specs.Labelled.{Within}
use Rattle.marking.specs.declared.Marking.{Marking}
use Rattle.marking.specs.Form.{bonds_of, marking_of, InOrder}
use Rattle.marking.proofs.Padding.{length-padded}
use Rattle.enabling.specs.Ready.{Ready}

-- 13, with the places as they lie
pub misplaced-here : (n : ℕ) (t : Arcs) → ((e : Entry) → Mem e t.entries → e.base < n) → (m : Marking)
    → any (λ (e : Entry). not (eqb (get_or m.places e.base 0) e.from)) t.entries ≡ misplaced t (marking_of n m)
misplaced-here n t h m = any-cong (λ (e : Entry). not (eqb (get_or m.places e.base 0) e.from)) (λ (e : Entry). not (eqb (place (marking_of n m) e.base) e.from))
    t.entries (λ e d. ap (λ (x : ℕ). not (eqb x e.from)) (sym (get_or-take n m.places e.base 0 (h e d))))

-- ---- a transition and a marking that are ready

module _ (n : ℕ) (t : Arcs) (m : Marking) (R : Ready n t m) where
  -- bonds in order, each of the marking or of the transition, fit
  pub few-here : (bs : List Bond) → Ascending same_bond less_bond bs → ((b : Bond) → has_bond b bs ≡ true → has_bond b (puts same_bond less_bond (arcs_bonds t) (bonds_of m)) ≡ true)
      → length bs ≤ max_bonds
  few-here bs o h = le_trans (few-among bs (puts same_bond less_bond (arcs_bonds t) (bonds_of m)) o h) R.room

  pub room : m.count ≤ max_bonds
  room =
      let a : length (bonds_of m) ≡ m.count = length-table m.count (ends m.lo m.hi) in
      rw (← a) (few-here (bonds_of m) R.order (puts-right (arcs_bonds t) (bonds_of m)))

  pub in_order : InOrder m
  in_order = record { room = room; form = λ i. record { places = m.places; count = (R.form i).count; lo = (R.form i).lo; hi = (R.form i).hi }; order = R.order }

  bond-at : (i : ℕ) → i < m.count → (get_or m.lo i 0 < get_or m.hi i 0) × (get_or m.hi i 0 < n)
  bond-at i h = R.range (ends m.lo m.hi i) (mem-has (bonds_of m) (ends m.lo m.hi i) (mem-table m.count (ends m.lo m.hi) i h))

  pub ends_low : (i : ℕ) → i < m.count → (get_or m.lo i 0 < max_bases) × (get_or m.hi i 0 < max_bases)
  ends_low i h = let (a, b) = bond-at i h in let f = R.few in (omega arith, omega arith)

  pub entry-low : (e : Entry) → Mem e t.entries → e.base < max_bases
  entry-low e h = let a = R.bases e h in let f = R.few in omega arith

  pub out_within : (b : Bond) → Mem b t.out_bonds → Within max_bases b
  out_within b h = let (u, v) = R.outs b (mem-has t.out_bonds b h) in let f = R.few in (omega arith, omega arith)

  pub places-length : length m.places ≡ max_bases
  places-length =
      let a = length-take n m.places in
      let f = R.few in
      ap (λ (x : Marking). length x.places) R.form ∙ length-padded (take n m.places) max_bases (omega arith)

-- ---- entries and out-bonds as they lie in the transition's bytes

module _ (n : ℕ) (b : List ℕ) (m : Marking) (R : Ready n (arcs_in b) m) where
  pub entries-near : (i : ℕ) → i < entry_count b → (nth_entry b i).base < n
  entries-near i h = R.bases (nth_entry b i) (mem-table (entry_count b) (nth_entry b) i h)

  pub entries-low : (i : ℕ) → i < entry_count b → (nth_entry b i).base < max_bases
  entries-low i h = entry-low n (arcs_in b) m R (nth_entry b i) (mem-table (entry_count b) (nth_entry b) i h)

  pub outs-within : (i : ℕ) → i < out_count b → Within max_bases (nth_out_bond b i)
  outs-within i h = out_within n (arcs_in b) m R (nth_out_bond b i) (mem-table (out_count b) (nth_out_bond b) i h)
