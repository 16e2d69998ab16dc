-- Laws of labels that are kept while bonds are put in: they stay a partition, and the sets of the labels go with them.
-- Assumes nothing. N is the number of labels.
use mathlib.Core.Path.{◌≡◌, refl, sym, ◌∙◌, ap, subst}
use mathlib.Core.Bool.{Bool, true, false, ◌||◌, or_comm, or_assoc}
use mathlib.Core.List.{List, [], ◌∷◌, ◌++◌}
use Prim.Native.Nat.{ℕ, ◌<◌}
use lib.Dec.{eqb}
use lib.ListN.{length, get_or}
use borrow.Author.Tests.{eqb-true}
use Rattle.net.specs.Tests.{pick, table}
use Rattle.net.specs.Sorted.{put}
use Rattle.net.specs.Net.{bond, same_bond, less_bond, has_bond}
use Rattle.net.specs.Connection.{relabelled, labelling, label, connected}
use Rattle.net.specs.declared.Bond.{Bond}
use Rattle.net.proofs.Tests.{pick-case}
use Rattle.net.proofs.Tables.{length-table, get_d-table, table-cong, table-list}
use Rattle.net.proofs.Sorted.{has-put}
use Rattle.net.proofs.Bonds.{bond-order}
use Rattle.net.proofs.Connection.{connected-alike}
use Rattle.labels.specs.Labelled.{label_in, renamed, Parted, Within}

-- ---- the order of the bonds plays no part

pub connected-same : (bs cs : List Bond) → ((b : Bond) → has_bond b bs ≡ has_bond b cs) → (p q : ℕ) → connected bs p q ≡ connected cs p q
connected-same bs cs h p q = connected-alike (λ _. true) bs cs (λ _ _ _ _. refl) (λ x y _ i. h (bond x y) i || h (bond y x) i) p q refl

has_last : (z b : Bond) (bs : List Bond) → has_bond z (bs ++ (b ∷ [])) ≡ (same_bond z b || has_bond z bs)
has_last z b [] = refl
has_last z b (c ∷ bs) = ap (λ (x : Bool). same_bond z c || x) (has_last z b bs) ∙ sym (or_assoc (same_bond z c) (same_bond z b) (has_bond z bs))
    ∙ ap (λ (x : Bool). x || has_bond z bs) (or_comm (same_bond z c) (same_bond z b)) ∙ or_assoc (same_bond z b) (same_bond z c) (has_bond z bs)

labelling-last : (f : ℕ → ℕ) (bs : List Bond) (b : Bond) → labelling f (bs ++ (b ∷ [])) ≡ relabelled (labelling f bs) b
labelling-last f [] b = refl
labelling-last f (c ∷ bs) b = labelling-last (relabelled f c) bs b

-- a bond joined last connects what it connects at its place in the order
pub connected-put : (bs : List Bond) (b : Bond) (p q : ℕ) → eqb (relabelled (label bs) b p) (relabelled (label bs) b q) ≡ connected (put same_bond less_bond b bs) p q
connected-put bs b p q = ap (λ (f : ℕ → ℕ). eqb (f p) (f q)) (sym (labelling-last (λ x. x) bs b))
    ∙ connected-same (bs ++ (b ∷ [])) (put same_bond less_bond b bs) (λ z. has_last z b bs ∙ sym (has-put same_bond less_bond bond-order z b bs)) p q

-- labellings that tell the same bases apart do so once a bond is joined in both
pub joined-alike : (f g : ℕ → ℕ) (b : Bond) (p q : ℕ) → eqb (f p) (f q) ≡ eqb (g p) (g q)
    → eqb (f p) (f b.hi) ≡ eqb (g p) (g b.hi) → eqb (f q) (f b.hi) ≡ eqb (g q) (g b.hi)
    → eqb (f p) (f b.lo) ≡ eqb (g p) (g b.lo) → eqb (f b.lo) (f q) ≡ eqb (g b.lo) (g q) → eqb (f b.lo) (f b.lo) ≡ eqb (g b.lo) (g b.lo)
    → eqb (relabelled f b p) (relabelled f b q) ≡ eqb (relabelled g b p) (relabelled g b q)
joined-alike f g b p q pq ph qh pl lq ll =
    go (eqb (f p) (f b.hi)) (eqb (f q) (f b.hi))
    ∙ (λ i. eqb (pick (ph i) (g b.lo) (g p)) (pick (qh i) (g b.lo) (g q)))
  where
    go : (x y : Bool) → eqb (pick x (f b.lo) (f p)) (pick y (f b.lo) (f q)) ≡ eqb (pick x (g b.lo) (g p)) (pick y (g b.lo) (g q))
    go true true = ll
    go true false = lq
    go false true = pl
    go false false = pq

-- a label that gives way to itself
pub renamed-same : (x y z : ℕ) → x ≡ y → z ≡ renamed y x z
renamed-same x y z e = pick-case (λ (v : ℕ). z ≡ v) (eqb z y) x z (λ q. eqb-true z y q ∙ sym e) (λ _. refl)

module _ (N : ℕ) where
  -- one more bond: the label of its second end gives way to that of its first
  pub parted-join : (bs : List Bond) (b : Bond) → Within N b → (l r : List ℕ) → r ≡ table N (λ p. renamed (label_in l b.hi) (label_in l b.lo) (label_in l p))
      → Parted N l bs → Parted N r (put same_bond less_bond b bs)
  parted-join bs b w l r e P =
      let f : ℕ → ℕ = label_in l in
      let at : (p : ℕ) → p < N → label_in r p ≡ relabelled f b p = λ p k. ap (λ (x : List ℕ). get_or x p 0) e ∙ get_d-table N (λ p. renamed (f b.hi) (f b.lo) (f p)) p 0 k in
      record {
        size = ap length e ∙ length-table N (λ p. renamed (f b.hi) (f b.lo) (f p));
        low = λ p k. subst (λ (x : ℕ). x < N) (sym (at p k)) (pick-case (λ (x : ℕ). x < N) (eqb (f p) (f b.hi)) (f b.lo) (f p) (λ _. P.low b.lo w.0) (λ _. P.low p k));
        says = λ p q j k. (λ i. eqb (at p j i) (at q k i))
            ∙ joined-alike f (label bs) b p q (P.says p q j k) (P.says p b.hi j w.1) (P.says q b.hi k w.1)
            (P.says p b.lo j w.0) (P.says b.lo q w.0 k) (P.says b.lo b.lo w.0 w.0)
            ∙ connected-put bs b p q;
      }

  -- a bond whose ends have one label already changes nothing
  pub parted-stay : (bs : List Bond) (b : Bond) → Within N b → (l : List ℕ) → label_in l b.lo ≡ label_in l b.hi → Parted N l bs → Parted N l (put same_bond less_bond b bs)
  parted-stay bs b w l e P =
      let x : ℕ = label_in l b.lo in
      let y : ℕ = label_in l b.hi in
      parted-join bs b w l l (sym (table-list l 0) ∙ ap (λ (k : ℕ). table k (label_in l)) P.size
      ∙ table-cong N (label_in l) (λ p. renamed y x (label_in l p)) (λ p k. renamed-same x y (label_in l p) e)) P
