-- Laws of the sets of the labels: joined where a bond is put in, and gathered anew from the labels.
-- Assumes nothing. N is the number of labels.
use mathlib.Core.Path.{◌≡◌, refl, sym, ◌∙◌, ap, subst}
use mathlib.Core.Bool.{Bool, true, false, ◌||◌, or-false, or_comm}
use mathlib.Core.List.{List}
use Prim.Native.Nat.{ℕ, ◌<◌}
use native.Mathlib.Omega.{arith}
use lib.Dec.{eqb}
use lib.ListN.{length, get_or, set, length-set}
use lib.Seq.{get_or-set_same, get_or-set_other}
use borrow.Author.Tests.{eqb-true, eqb-false, eq-eqb, ne_eqb}
use Rattle.causal.proofs.Tests.{test}
use Rattle.net.specs.Limits.{max_bases}
use Rattle.net.specs.Tests.{table}
use Rattle.net.specs.Sorted.{put}
use Rattle.net.specs.Net.{same_bond, less_bond}
use Rattle.net.specs.declared.Bond.{Bond}
use Rattle.net.proofs.Tests.{pick-case}
use Rattle.net.proofs.Tables.{length-table, get_d-table, table-cong}
use Rattle.words.specs.Sets.{set_of, either}
use Rattle.words.proofs.Bits.{either-table}
use Rattle.labels.specs.Labelled.{label_in, renamed, Labelled, Within, Fits}
use Rattle.labels.proofs.Joining.{parted-join, parted-stay}

-- what has label x once y is renamed to x
one_of : (x y z : ℕ) → (eqb x z || eqb y z) ≡ eqb x (renamed y x z)
one_of x y z = pick-case (λ (v : ℕ). (eqb x z || eqb y z) ≡ eqb x v) (eqb z y) x z
    (λ e. ap (λ (t : Bool). eqb x z || t) (eq-eqb y z (sym (eqb-true z y e))) ∙ or_comm (eqb x z) true ∙ sym (eq-eqb x x refl))
    (λ e. ap (λ (t : Bool). eqb x z || t) (ne-turned e) ∙ or-false (eqb x z))
  where
    ne-turned : eqb z y ≡ false → eqb y z ≡ false
    ne-turned e = ne_eqb y z (λ d. eqb-false z y e (sym d))

-- what has another label
other-of : (x y u z : ℕ) → eqb u x ≡ false → eqb u y ≡ false → eqb u z ≡ eqb u (renamed y x z)
other-of x y u z d e = pick-case (λ (v : ℕ). eqb u z ≡ eqb u v) (eqb z y) x z (λ q. ap (eqb u) (eqb-true z y q) ∙ e ∙ sym d) (λ _. refl)

module _ (N : ℕ) (l m : List ℕ) (size : length m ≡ N) (low : (p : ℕ) → p < N → label_in l p < N)
    (holds : (p : ℕ) → p < N → set_of N (get_or m (label_in l p) 0) ≡ table N (λ q. eqb (label_in l p) (label_in l q)))
    (lo hi : ℕ) (hl : lo < N) (hh : hi < N) (w : ℕ)
    (joined : set_of N w ≡ either (set_of N (get_or m (label_in l lo) 0)) (set_of N (get_or m (label_in l hi) 0))) where
  abbrev x : ℕ
  x = label_in l lo

  abbrev y : ℕ
  y = label_in l hi

  -- the sets, of labels that are renamed
  abbrev Right : ℕ → Type 0
  Right z = set_of N (get_or (set m x w) z 0) ≡ table N (λ q. eqb z (renamed y x (label_in l q)))

  at_x : Right x
  at_x = ap (set_of N) (get_or-set_same m x w 0 (let k = low lo hl in omega arith)) ∙ joined ∙ (λ i. either (holds lo hl i) (holds hi hh i))
      ∙ either-table N (λ q. eqb x (label_in l q)) (λ q. eqb y (label_in l q))
      ∙ table-cong N (λ q. eqb x (label_in l q) || eqb y (label_in l q)) (λ q. eqb x (renamed y x (label_in l q))) (λ q k. one_of x y (label_in l q))

  elsewhere : (p : ℕ) → p < N → eqb (label_in l p) x ≡ false → eqb (label_in l p) y ≡ false → Right (label_in l p)
  elsewhere p h d e = ap (set_of N) (get_or-set_other m x (label_in l p) w 0 (eqb-false (label_in l p) x d)) ∙ holds p h
      ∙ table-cong N (λ q. eqb (label_in l p) (label_in l q)) (λ q. eqb (label_in l p) (renamed y x (label_in l q))) (λ q k. other-of x y (label_in l p) (label_in l q) d e)

  sets-join : (r : List ℕ) → r ≡ table N (λ p. renamed y x (label_in l p))
      → (p : ℕ) → p < N → set_of N (get_or (set m x w) (label_in r p) 0) ≡ table N (λ q. eqb (label_in r p) (label_in r q))
  sets-join r e p h =
      let at : (q : ℕ) → q < N → label_in r q ≡ renamed y x (label_in l q) = λ q k. ap (λ (z : List ℕ). get_or z q 0) e ∙ get_d-table N (λ p. renamed y x (label_in l p)) q 0 k in
      let z : ℕ = renamed y x (label_in l p) in
      let right : Right z = pick-case Right (eqb (label_in l p) y) x (label_in l p) (λ _. at_x)
      (λ d. test (eqb (label_in l p) x) (λ c. subst Right (sym (eqb-true (label_in l p) x c)) at_x) (λ c. elsewhere p h c d)) in
      ap (λ (k : ℕ). set_of N (get_or (set m x w) k 0)) (at p h) ∙ right
      ∙ table-cong N (λ q. eqb z (renamed y x (label_in l q))) (λ q. eqb (label_in r p) (label_in r q)) (λ q k. sym (λ i. eqb (at p h i) (at q k i)))

-- one more bond: the set of its second end's label goes to that of its first end's
pub labelled-join : (bs : List Bond) (b : Bond) → Within max_bases b → (l m r : List ℕ) (w : ℕ)
    → set_of max_bases w ≡ either (set_of max_bases (get_or m (label_in l b.lo) 0)) (set_of max_bases (get_or m (label_in l b.hi) 0))
    → r ≡ table max_bases (λ p. renamed (label_in l b.hi) (label_in l b.lo) (label_in l p))
    → Labelled l m bs → Labelled r (set m (label_in l b.lo) w) (put same_bond less_bond b bs)
labelled-join bs b k l m r w u e L = record {
  parted = parted-join max_bases bs b k l r e L.parted;
  size = length-set m (label_in l b.lo) w ∙ L.size;
  holds = sets-join max_bases l m L.size L.parted.low L.holds b.lo b.hi k.0 k.1 w u r e;
}

-- a bond whose ends have one label already
pub labelled-stay : (bs : List Bond) (b : Bond) → Within max_bases b → (l m : List ℕ) → label_in l b.lo ≡ label_in l b.hi
    → Labelled l m bs → Labelled l m (put same_bond less_bond b bs)
labelled-stay bs b k l m e L = record { parted = parted-stay max_bases bs b k l e L.parted; size = L.size; holds = L.holds }

-- the arrays fit as before
pub fits-join : (b : Bond) → Within max_bases b → (l m r : List ℕ) (w : ℕ) → r ≡ table max_bases (λ p. renamed (label_in l b.hi) (label_in l b.lo) (label_in l p))
    → Fits l m → Fits r (set m (label_in l b.lo) w)
fits-join b k l m r w e F =
    let g : ℕ → ℕ = λ p. renamed (label_in l b.hi) (label_in l b.lo) (label_in l p) in (
      ap length e ∙ length-table max_bases g,
      length-set m (label_in l b.lo) w ∙ F.1,
      λ p h. subst (λ (x : ℕ). x < max_bases) (sym (ap (λ (z : List ℕ). get_or z p 0) e ∙ get_d-table max_bases g p 0 h))
          (pick-case (λ (x : ℕ). x < max_bases) (eqb (label_in l p) (label_in l b.hi)) (label_in l b.lo) (label_in l p) (λ _. F.2 b.lo k.0) (λ _. F.2 p h)),
    )
