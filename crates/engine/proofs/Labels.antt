-- Labels where a transition's bonds go in or out: joined one bond after the other, and the same where no bond went.
-- Assumes nothing.
use mathlib.Core.Path.{◌≡◌, refl, sym, ◌∙◌, ap, subst}
use mathlib.Core.Bool.{Bool, true, false}
use mathlib.Core.List.{List, [], ◌∷◌}
use Prim.Native.Nat.{ℕ, ◌-◌, ◌<◌, ◌≤◌}
use native.Mathlib.Omega.{arith}
use lib.ListN.{length, drop, drop_of_length-le}
use Rattle.net.specs.Tests.{pick, keep, table}
use Rattle.net.specs.Sorted.{put, puts}
use Rattle.net.specs.Net.{same_bond, less_bond}
use Rattle.net.specs.declared.Bond.{Bond}
use Rattle.net.proofs.Tables.{length-table}
use Rattle.bonds.specs.Ends.{ends}
use Rattle.bonds.proofs.Fill.{drop-back}
use Rattle.labels.specs.Labelled.{Labelled, Fits}
use Rattle.marking.specs.declared.Marking.{Marking}
use Rattle.marking.specs.Form.{bonds_of, with_bonds}
use Rattle.marking.proofs.Forms.{bonds-with}

-- labels of any bonds, and what they are once the bonds cs are in too
abbrev pub Joins : (l m r w : List ℕ) → List Bond → Type 0
Joins l m r w cs = (bs : List Bond) → Labelled l m bs → Labelled r w (puts same_bond less_bond cs bs)

pub labels-fit : (l m : List ℕ) (bs : List Bond) → Labelled l m bs → Fits l m
labels-fit l m bs L = (L.parted.size, L.size, L.parted.low)

module _ (n : ℕ) (f : ℕ → Bond) where
  pub joins-none : (L : ℕ) → L ≡ n → (l m : List ℕ) → Joins l m l m (drop L (table n f))
  joins-none L e l m bs P =
      let h : length (table n f) ≤ L = rw (length-table n f) (omega arith) in
      subst (λ (cs : List Bond). Labelled l m (puts same_bond less_bond cs bs)) (sym (drop_of_length-le (table n f) h)) P

  pub joins-turn : (L : ℕ) (b : Bond) (l₀ m₀ l m r w : List ℕ) → 0 < L → L ≤ n → b ≡ f (L - 1) → Joins l₀ m₀ l m (drop L (table n f))
      → ((bs : List Bond) → Labelled l m bs → Labelled r w (put same_bond less_bond b bs)) → Joins l₀ m₀ r w (drop (L - 1) (table n f))
  joins-turn L b l₀ m₀ l m r w u v e K j bs P =
      subst (λ (cs : List Bond). Labelled r w (puts same_bond less_bond cs bs)) (ap (λ (c : Bond). c ∷ drop L (table n f)) e ∙ sym (drop-back n L f u v))
      (j (puts same_bond less_bond (drop L (table n f)) bs) (K bs P))

-- ---- where as many elements are kept as there were, the list is as it was

keep_same : {X : Type 0} (t : X → Bool) (l : List X) → (length (keep t l) ≤ length l) × (length (keep t l) ≡ length l → keep t l ≡ l)
keep_same t [] = (omega arith, λ h. refl)
keep_same {X} t (x ∷ l) = go (t x) (keep_same t l)
  where
    go : (b : Bool) → (length (keep t l) ≤ length l) × (length (keep t l) ≡ length l → keep t l ≡ l)
        → (length (pick b (x ∷ keep t l) (keep t l)) ≤ length (x ∷ l)) × (length (pick b (x ∷ keep t l) (keep t l)) ≡ length (x ∷ l) → pick b (x ∷ keep t l) (keep t l) ≡ x ∷ l)
    go true ih = (let a = ih.0 in omega arith, λ h. ap (λ (k : List X). x ∷ k) (ih.1 (omega arith)))
    go false ih = (let a = ih.0 in omega arith, λ h. absurd (let a = ih.0 in let z : ⊥ = omega arith in z))

pub none-gone : (m cut : Marking) (t : Bond → Bool) → cut ≡ with_bonds m (keep t (bonds_of m)) → cut.count ≡ m.count → bonds_of m ≡ bonds_of cut
none-gone m cut t q e =
    let a : cut.count ≡ length (keep t (bonds_of m)) = ap (λ (x : Marking). x.count) q in
    let b : length (bonds_of m) ≡ m.count = length-table m.count (ends m.lo m.hi) in
    sym (ap bonds_of q ∙ bonds-with m (keep t (bonds_of m)) ∙ (keep_same t (bonds_of m)).1 (omega arith))
