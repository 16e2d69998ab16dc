-- Laws of the sets of the labels, gathered base by base.
-- Assumes nothing. N is the number of bases and of labels.
use mathlib.Core.Path.{◌≡◌, refl, sym, ◌∙◌, ap}
use mathlib.Core.Bool.{Bool, true, false, ◌&&◌}
use mathlib.Core.List.{List}
use Prim.Native.Nat.{ℕ, zero, suc, ◌+◌, ◌<◌}
use native.Mathlib.Omega.{arith}
use lib.Dec.{eqb, ltb}
use lib.ListN.{length, get_or, set, replicate}
use lib.Seq.{get_or-set_same, get_or-set_other}
use borrow.Author.Tests.{eqb-true, eqb-false, eq-eqb, ltb-true, lt-ltb, le-ltb}
use Rattle.causal.proofs.Tests.{test}
use Rattle.net.specs.Tests.{pick, table}
use Rattle.net.proofs.Tests.{same_test, pick-case}
use Rattle.net.proofs.Tables.{table-cong}
use Rattle.words.specs.Sets.{set_of}
use Rattle.words.proofs.Bits.{no-bases}
use Rattle.bonds.proofs.Fill.{set-table}
use Rattle.labels.specs.Labelled.{label_in}

get_d-same : (n : ℕ) (v : ℕ) (p : ℕ) → get_or (replicate n v) p v ≡ v
get_d-same zero v p = refl
get_d-same (suc n) v zero = refl
get_d-same (suc n) v (suc p) = get_d-same n v p

-- below p + 1 is what is below p, but for p
ltb-more : (p q : ℕ) → eqb p q ≡ false → ltb q p ≡ ltb q (p + 1)
ltb-more p q e = same_test (ltb q p) (ltb q (p + 1)) (λ h. let k = ltb-true q p h in lt-ltb q (p + 1) (omega arith))
    (λ h. let k = ltb-true q (p + 1) h in let n : p ≡ q → ⊥ = eqb-false p q e in lt-ltb q p (omega (arith, n)))

-- the bases below p that have label x
abbrev pub gathered : List ℕ → ℕ → ℕ → ℕ → Bool
gathered l p x q = ltb q p && eqb x (label_in l q)

module _ (N : ℕ) (l : List ℕ) where
  -- at each label stand the bases below p that have it
  abbrev pub Gathered : List ℕ → ℕ → Type 0
  Gathered m p = (x : ℕ) → x < N → set_of N (get_or m x 0) ≡ table N (gathered l p x)

  pub gather_none : (m : List ℕ) → m ≡ replicate N 0 → Gathered m 0
  gather_none m e x h = ap (set_of N) (ap (λ (k : List ℕ). get_or k x 0) e ∙ get_d-same N 0 x) ∙ no-bases N
      ∙ table-cong N (λ _. false) (gathered l 0 x) (λ q k. sym (ap (λ (b : Bool). b && eqb x (label_in l q)) (le-ltb q 0 (omega arith))))

  module _ (p : ℕ) where
    own : (q : ℕ) → pick (eqb p q) true (gathered l p (label_in l p) q) ≡ gathered l (p + 1) (label_in l p) q
    own q = pick-case (λ (b : Bool). b ≡ gathered l (p + 1) (label_in l p) q) (eqb p q) true (gathered l p (label_in l p) q)
        (λ e. let d : p ≡ q = eqb-true p q e in
        sym (λ i. and_both (lt-ltb q (p + 1) (omega arith)) (eq-eqb (label_in l p) (label_in l q) (ap (label_in l) d)) i))
        (λ e. ap (λ (b : Bool). b && eqb (label_in l p) (label_in l q)) (ltb-more p q e))
      where
        and_both : {a b : Bool} → a ≡ true → b ≡ true → (a && b) ≡ true
        and_both u v = λ i. u i && v i

    others : (x q : ℕ) → eqb x (label_in l p) ≡ false → gathered l p x q ≡ gathered l (p + 1) x q
    others x q n = test (eqb p q)
        (λ e. let d : p ≡ q = eqb-true p q e in
        let f : eqb x (label_in l q) ≡ false = ap (λ (k : ℕ). eqb x (label_in l k)) (sym d) ∙ n in
        no (ltb q p) f ∙ sym (no (ltb q (p + 1)) f))
        (λ e. ap (λ (b : Bool). b && eqb x (label_in l q)) (ltb-more p q e))
      where
        no : (a : Bool) {b : Bool} → b ≡ false → (a && b) ≡ false
        no true e = e
        no false e = refl

    -- one base more
    pub gather-turn : (m : List ℕ) (w : ℕ) → p < N → length m ≡ N → label_in l p < N → set_of N w ≡ set (set_of N (get_or m (label_in l p) 0)) p true
        → Gathered m p → Gathered (set m (label_in l p) w) (p + 1)
    gather-turn m w hp s hy e G x h = test (eqb x (label_in l p))
        (λ d. let q : x ≡ label_in l p = eqb-true x (label_in l p) d in
        ap (λ (k : ℕ). set_of N (get_or (set m (label_in l p) w) k 0)) q ∙ mine ∙ ap (λ (k : ℕ). table N (gathered l (p + 1) k)) (sym q))
        (λ d. ap (set_of N) (get_or-set_other m (label_in l p) x w 0 (eqb-false x (label_in l p) d)) ∙ G x h
        ∙ table-cong N (gathered l p x) (gathered l (p + 1) x) (λ q k. others x q d))
      where
        mine : set_of N (get_or (set m (label_in l p) w) (label_in l p) 0) ≡ table N (gathered l (p + 1) (label_in l p))
        mine = ap (set_of N) (get_or-set_same m (label_in l p) w 0 (omega arith)) ∙ e ∙ ap (λ (k : List Bool). set k p true) (G (label_in l p) hy)
            ∙ set-table N (gathered l p (label_in l p)) p true hp
            ∙ table-cong N (λ q. pick (eqb p q) true (gathered l p (label_in l p) q)) (gathered l (p + 1) (label_in l p)) (λ q k. own q)

  pub gather-end : (m : List ℕ) (p : ℕ) → p ≡ N → Gathered m p → (x : ℕ) → x < N → set_of N (get_or m x 0) ≡ table N (λ q. eqb x (label_in l q))
  gather-end m p e G x h = G x h
      ∙ table-cong N (gathered l p x) (λ q. eqb x (label_in l q)) (λ q k. ap (λ (b : Bool). b && eqb x (label_in l q)) (lt-ltb q p (omega arith)))
