-- Laws of a list changed in place from the front: after i stores it is f 0, .., f (i - 1) and then what it was.
-- Assumes nothing.
use mathlib.Core.Path.{◌≡◌, refl, sym, ◌∙◌, ap}
use mathlib.Core.List.{List, [], ◌∷◌, ◌++◌}
use Prim.Native.Nat.{ℕ, zero, suc, ◌+◌, ◌-◌, ◌<◌, ◌≤◌}
use native.Mathlib.Omega.{arith}
use native.Mathlib.Nat.{le_of_suc-le-suc, not-suc-le-zero}
use lib.ListN.{length, get_or, take, drop, set, take-append-drop}
use lib.Seq.{drop-cons, set_at, get_or-append-add, get_or-drop}
use Rattle.net.specs.Tests.{table}
use Rattle.net.proofs.Tables.{length-table, table-cong}

module _ {X : Type 0} where
  pub table-take : (k : ℕ) (l : List X) (d : X) → k ≤ length l → table k (λ i. get_or l i d) ≡ take k l
  table-take zero l d h = refl
  table-take (suc k) [] d h = absurd (not-suc-le-zero h)
  table-take (suc k) (x ∷ l) d h = ap (λ (r : List X). x ∷ r) (table-take k l d (le_of_suc-le-suc h))

  -- the loop begins at k, where all before k stays as it is
  pub fill_start : (g : ℕ → X) (k : ℕ) (l : List X) (d : X) → k ≤ length l → ((p : ℕ) → p < k → g p ≡ get_or l p d) → l ≡ table k g ++ drop k l
  fill_start g k l d h e = sym (take-append-drop k l) ∙ ap (λ (r : List X). r ++ drop k l) (sym (table-cong k g (λ i. get_or l i d) e ∙ table-take k l d h))

  -- what is not yet stored is read as it was
  pub read-ahead : (g : ℕ → X) (j i : ℕ) (l now : List X) (d : X) → j ≤ i → now ≡ table j g ++ drop j l → get_or now i d ≡ get_or l i d
  read-ahead g j i l now d h e =
      let q : i ≡ length (table j g) + (i - j) = rw (length-table j g) (omega arith) in
      let u : j + (i - j) ≡ i = omega arith in
      ap (λ (r : List X). get_or r i d) e ∙ ap (λ (n : ℕ). get_or (table j g ++ drop j l) n d) q ∙ get_or-append-add (table j g) (drop j l) (i - j) d
      ∙ get_or-drop j l (i - j) d ∙ ap (λ (n : ℕ). get_or l n d) u

  -- the last store, of another value
  pub fill-last : (g : ℕ → X) (j n : ℕ) (l now : List X) (d v : X) → j < length l → suc j ≡ n → now ≡ table j g ++ drop j l → set now j v ≡ table j g ++ (v ∷ drop n l)
  fill-last g j n l now d v h s e =
      ap (λ (r : List X). set r j v) (e ∙ ap (λ (r : List X). table j g ++ r) (drop-cons l j d h))
      ∙ set_at (table j g) (get_or l j d) (drop (suc j) l) v j (length-table j g) ∙ ap (λ (m : ℕ). table j g ++ (v ∷ drop m l)) s
