-- Laws of the struct that holds a marking: its bonds after one is put in or taken out, and its form.
-- Assumes nothing.
use mathlib.Core.Path.{◌≡◌, sym, ◌∙◌, ap}
use mathlib.Core.Bool.{Bool, true, false, not, ◌&&◌}
use mathlib.Core.List.{List}
use Prim.Native.Nat.{ℕ, suc, ◌+◌, ◌-◌, ◌<◌, ◌≤◌}
use native.Mathlib.Numerals.{add-one}
use lib.ListN.{length, get_or, take, replicate, length-map, get_or-append, get_or-map}
use lib.Dec.{leb}
use borrow.Author.Tests.{leb-true, le-leb}
use Rattle.net.specs.Limits.{max_bases, max_bonds}
use Rattle.net.specs.Tests.{keep, table}
use Rattle.net.specs.Sorted.{Ascending, put}
use Rattle.net.specs.declared.Bond.{Bond}
use Rattle.net.proofs.Tests.{and_l, and_r}
use Rattle.net.proofs.Tables.{length-table, table-cong, table-list}
use Rattle.net.proofs.Bonds.{bond-order}
use Rattle.net.specs.Net.{Marking as NetMarking, bond, same_bond, less_bond, has_bond}
use Rattle.bonds.specs.Ends.{ends, bonds_in, rank_in}
use Rattle.bonds.proofs.Fill.{map-table}
use Rattle.bonds.proofs.InPlace.{table-take}
use Rattle.marking.specs.declared.Marking.{Marking}
use Rattle.marking.specs.Shift.{slot, gap}
use Rattle.marking.specs.Form.{padded, los, his, bonds_of, marking_of, with_bonds, InOrder, laid, zero_from, in_form}
use Rattle.marking.proofs.Padding.{zero-padded, take-padded, padded-zero}
use Rattle.marking.proofs.Shifts.{slot_map, gap-map, put-table, put-present, keep-table, keep-absent}

-- ---- one bond more

module _ (m : Marking) (b : Bond) (O : Ascending same_bond less_bond (bonds_of m)) where
  abbrev n : ℕ
  n = m.count

  -- b is absent, k is its rank, and the ends went in at k
  pub added : (k : ℕ) (lo hi : List ℕ) → has_bond b (bonds_of m) ≡ false → k ≡ rank_in m.lo m.hi n b
      → lo ≡ padded max_bonds (table (n + 1) (slot k b.lo (λ i. get_or m.lo i 0)))
      → hi ≡ padded max_bonds (table (n + 1) (slot k b.hi (λ i. get_or m.hi i 0)))
      → record { places = m.places; count = n + 1; lo = lo; hi = hi } ≡ with_bonds m (put same_bond less_bond b (bonds_of m))
  added k lo hi h r p q =
      let e : put same_bond less_bond b (bonds_of m) ≡ table (n + 1) (slot k b (ends m.lo m.hi)) =
      put-table same_bond less_bond bond-order b n (ends m.lo m.hi) O h
      ∙ ap (λ (j : ℕ). table (suc n) (slot j b (ends m.lo m.hi))) (sym r)
      ∙ ap (λ (j : ℕ). table j (slot k b (ends m.lo m.hi))) (sym (add-one n)) in
      let c : n + 1 ≡ length (put same_bond less_bond b (bonds_of m)) = sym (ap length e ∙ length-table (n + 1) (slot k b (ends m.lo m.hi))) in
      let l : los (put same_bond less_bond b (bonds_of m)) ≡ table (n + 1) (slot k b.lo (λ i. get_or m.lo i 0)) =
      ap los e ∙ map-table (λ (d : Bond). d.lo) (n + 1) (slot k b (ends m.lo m.hi))
      ∙ table-cong (n + 1) (λ j. (slot k b (ends m.lo m.hi) j).lo) (slot k b.lo (λ i. get_or m.lo i 0)) (λ j _. slot_map (λ (d : Bond). d.lo) k b (ends m.lo m.hi) j) in
      let u : his (put same_bond less_bond b (bonds_of m)) ≡ table (n + 1) (slot k b.hi (λ i. get_or m.hi i 0)) =
      ap his e ∙ map-table (λ (d : Bond). d.hi) (n + 1) (slot k b (ends m.lo m.hi))
      ∙ table-cong (n + 1) (λ j. (slot k b (ends m.lo m.hi) j).hi) (slot k b.hi (λ i. get_or m.hi i 0)) (λ j _. slot_map (λ (d : Bond). d.hi) k b (ends m.lo m.hi) j) in
      λ i. record { places = m.places; count = c i; lo = (p ∙ ap (padded max_bonds) (sym l)) i; hi = (q ∙ ap (padded max_bonds) (sym u)) i }

  -- b is there, k is its rank, and the ends at k went out
  pub taken : (k : ℕ) (lo hi : List ℕ) → has_bond b (bonds_of m) ≡ true → k ≡ rank_in m.lo m.hi n b
      → lo ≡ padded max_bonds (table (n - 1) (gap k (λ i. get_or m.lo i 0)))
      → hi ≡ padded max_bonds (table (n - 1) (gap k (λ i. get_or m.hi i 0)))
      → record { places = m.places; count = n - 1; lo = lo; hi = hi } ≡ with_bonds m (keep (λ (c : Bond). not (same_bond c b)) (bonds_of m))
  taken k lo hi h r p q =
      let e : keep (λ (c : Bond). not (same_bond c b)) (bonds_of m) ≡ table (n - 1) (gap k (ends m.lo m.hi)) =
      keep-table same_bond less_bond bond-order b n (ends m.lo m.hi) O h ∙ ap (λ (j : ℕ). table (n - 1) (gap j (ends m.lo m.hi))) (sym r) in
      let c : n - 1 ≡ length (keep (λ (d : Bond). not (same_bond d b)) (bonds_of m)) = sym (ap length e ∙ length-table (n - 1) (gap k (ends m.lo m.hi))) in
      let l : los (keep (λ (d : Bond). not (same_bond d b)) (bonds_of m)) ≡ table (n - 1) (gap k (λ i. get_or m.lo i 0)) =
      ap los e ∙ map-table (λ (d : Bond). d.lo) (n - 1) (gap k (ends m.lo m.hi))
      ∙ table-cong (n - 1) (λ j. (gap k (ends m.lo m.hi) j).lo) (gap k (λ i. get_or m.lo i 0)) (λ j _. gap-map (λ (d : Bond). d.lo) k (ends m.lo m.hi) j) in
      let u : his (keep (λ (d : Bond). not (same_bond d b)) (bonds_of m)) ≡ table (n - 1) (gap k (λ i. get_or m.hi i 0)) =
      ap his e ∙ map-table (λ (d : Bond). d.hi) (n - 1) (gap k (ends m.lo m.hi))
      ∙ table-cong (n - 1) (λ j. (gap k (ends m.lo m.hi) j).hi) (gap k (λ i. get_or m.hi i 0)) (λ j _. gap-map (λ (d : Bond). d.hi) k (ends m.lo m.hi) j) in
      λ i. record { places = m.places; count = c i; lo = (p ∙ ap (padded max_bonds) (sym l)) i; hi = (q ∙ ap (padded max_bonds) (sym u)) i }

-- ---- a bond that is there is not put in again, one that is not there is not taken out

module _ (m : Marking) (b : Bond) (I : InOrder m) where
  pub not-added : has_bond b (bonds_of m) ≡ true → m ≡ with_bonds m (put same_bond less_bond b (bonds_of m))
  not-added h = I.form ∙ ap (with_bonds m) (sym (put-present same_bond less_bond bond-order b (bonds_of m) I.order h))

  pub not_taken : has_bond b (bonds_of m) ≡ false → m ≡ with_bonds m (keep (λ (c : Bond). not (same_bond c b)) (bonds_of m))
  not_taken h = I.form ∙ ap (with_bonds m) (sym (keep-absent same_bond less_bond bond-order b (bonds_of m) h))

  -- with b put in, the bonds are one more
  pub one_more : has_bond b (bonds_of m) ≡ false → length (put same_bond less_bond b (bonds_of m)) ≡ m.count + 1
  one_more h = ap length (put-table same_bond less_bond bond-order b m.count (ends m.lo m.hi) I.order h)
      ∙ length-table (suc m.count) (slot (rank_in m.lo m.hi m.count b) b (ends m.lo m.hi)) ∙ sym (add-one m.count)

-- ---- the bonds that are in the struct

get_d-los : (bs : List Bond) (N i : ℕ) → i < length bs → get_or (padded N (los bs)) i 0 ≡ (get_or bs i (bond 0 0)).lo
get_d-los bs N i h =
    let s : i < length (los bs) = rw (length-map bs (λ (b : Bond). b.lo)) h in
    get_or-append (los bs) (replicate (N - length (los bs)) 0) 0 i s ∙ get_or-map (λ (b : Bond). b.lo) bs i (bond 0 0)

get_d-his : (bs : List Bond) (N i : ℕ) → i < length bs → get_or (padded N (his bs)) i 0 ≡ (get_or bs i (bond 0 0)).hi
get_d-his bs N i h =
    let s : i < length (his bs) = rw (length-map bs (λ (b : Bond). b.hi)) h in
    get_or-append (his bs) (replicate (N - length (his bs)) 0) 0 i s ∙ get_or-map (λ (b : Bond). b.hi) bs i (bond 0 0)

pub bonds-padded : (bs : List Bond) (N : ℕ) → bonds_in (padded N (los bs)) (padded N (his bs)) (length bs) ≡ bs
bonds-padded bs N = table-cong (length bs) (ends (padded N (los bs)) (padded N (his bs))) (λ i. get_or bs i (bond 0 0))
    (λ i h. let p = get_d-los bs N i h in let q = get_d-his bs N i h in λ j. record { lo = p j; hi = q j })
    ∙ table-list bs (bond 0 0)

pub bonds-with : (m : Marking) (bs : List Bond) → bonds_of (with_bonds m bs) ≡ bs
bonds-with m bs = bonds-padded bs max_bonds

pub in-order-with : (m : Marking) (bs : List Bond) → length bs ≤ max_bonds → Ascending same_bond less_bond bs → InOrder (with_bonds m bs)
in-order-with m bs h o = record {
  room = h;
  form = ap (with_bonds m) (sym (bonds-with m bs));
  order = rw (bonds-with m bs) o;
}

-- ---- the form

-- the arrays' lengths, which the struct's type gives
pub record Sized (m : Marking) : Type 0 where
  pub places : length m.places ≡ max_bases
  pub lo : length m.lo ≡ max_bonds
  pub hi : length m.hi ≡ max_bonds

module _ (m : Marking) (S : Sized m) where
  -- zeros behind the bonds
  pub zeros-form : m.count ≤ max_bonds → zero_from m.count m.lo ≡ true → zero_from m.count m.hi ≡ true → m ≡ with_bonds m (bonds_of m)
  zeros-form h a b =
      let c : m.count ≡ length (bonds_of m) = sym (length-table m.count (ends m.lo m.hi)) in
      let p : los (bonds_of m) ≡ take m.count m.lo = map-table (λ (d : Bond). d.lo) m.count (ends m.lo m.hi) ∙ table-take m.count m.lo 0 (rw S.lo h) in
      let q : his (bonds_of m) ≡ take m.count m.hi = map-table (λ (d : Bond). d.hi) m.count (ends m.lo m.hi) ∙ table-take m.count m.hi 0 (rw S.hi h) in
      let u : m.lo ≡ padded max_bonds (los (bonds_of m)) = zero-padded m.lo m.count max_bonds S.lo h a ∙ ap (padded max_bonds) (sym p) in
      let v : m.hi ≡ padded max_bonds (his (bonds_of m)) = zero-padded m.hi m.count max_bonds S.hi h b ∙ ap (padded max_bonds) (sym q) in
      λ i. record { places = m.places; count = c i; lo = u i; hi = v i }

  pub form-laid : (n : ℕ) → n ≤ max_bases → in_form n m ≡ true → m ≡ laid (marking_of n m)
  form-laid n h f =
      let a : m.count ≤ max_bonds = leb-true m.count max_bonds (and_l (leb m.count max_bonds) behind f) in
      let b : behind ≡ true = and_r (leb m.count max_bonds) behind f in
      let c : (zero_from m.count m.hi && zero_from n m.places) ≡ true = and_r (zero_from m.count m.lo) (zero_from m.count m.hi && zero_from n m.places) b in
      let e : m ≡ with_bonds m (bonds_of m) = zeros-form a (and_l (zero_from m.count m.lo) (zero_from m.count m.hi && zero_from n m.places) b)
      (and_l (zero_from m.count m.hi) (zero_from n m.places) c) in
      let p : m.places ≡ padded max_bases (take n m.places) = zero-padded m.places n max_bases S.places h (and_r (zero_from m.count m.hi) (zero_from n m.places) c) in
      λ i. record { places = p i; count = (e i).count; lo = (e i).lo; hi = (e i).hi }
    where
      behind : Bool
      behind = zero_from m.count m.lo && (zero_from m.count m.hi && zero_from n m.places)

-- the struct that holds a marking is in its form, and holds that marking
module _ (s : NetMarking) (n : ℕ) (size : length s.places ≡ n) where
  pub marking-laid : marking_of n (laid s) ≡ s
  marking-laid = λ i. record { places = take-padded s.places max_bases n size i; bonds = bonds-padded s.bonds max_bonds i }

  pub laid-in-form : length s.bonds ≤ max_bonds → in_form n (laid s) ≡ true
  laid-in-form h = rw (
    le-leb (length s.bonds) max_bonds h,
    padded-zero (los s.bonds) max_bonds (length s.bonds) (length-map s.bonds (λ (b : Bond). b.lo)),
    padded-zero (his s.bonds) max_bonds (length s.bonds) (length-map s.bonds (λ (b : Bond). b.hi)),
    padded-zero s.places max_bases n size,
  )
