-- An array closed up at a place, as `copy_within` does it.
-- Assumes nothing.
use mathlib.Core.Path.{◌≡◌, sym, ◌∙◌, ap}
use mathlib.Core.List.{List, [], ◌∷◌, ◌++◌}
use Prim.Native.Nat.{ℕ, zero, suc, ◌+◌, ◌-◌, ◌<◌, ◌≤◌}
use native.Mathlib.Omega.{arith}
use native.Mathlib.Numerals.{add-one}
use lib.Dec.{ltb}
use lib.ListN.{length, get_or, set, take, drop}
use lib.Seq.{paste}
use borrow.Author.Tests.{ltb-true, ltb-false}
use Rattle.causal.proofs.Tests.{test}
use Rattle.net.specs.Tests.{table}
use Rattle.net.proofs.Tables.{table-cong}
use Rattle.marking.specs.Shift.{gap}
use Rattle.marking.proofs.Shifts.{gap_below, gap_from}
use Rattle.bonds.proofs.InPlace.{table-take, fill-last}
use Rattle.firings.specs.Lines.{closed}

gap-suc : (k : ℕ) (f : ℕ → ℕ) (j : ℕ) → gap (suc k) f (suc j) ≡ gap k (λ i. f (suc i)) j
gap-suc k f j = test (ltb j k)
    (λ e. let h = ltb-true j k e in gap_below (suc k) f (suc j) (omega arith) ∙ sym (gap_below k (λ i. f (suc i)) j h))
    (λ e. let h = ltb-false j k e in let q : suc j + 1 ≡ suc (j + 1) = omega arith in gap_from (suc k) f (suc j) (omega arith) ∙ ap f q ∙ sym (gap_from k (λ i. f (suc i)) j h))

-- those before a place, and m - k of those after it
gap-take : (k m : ℕ) (l : List ℕ) → k ≤ m → m < length l → table m (gap k (λ i. get_or l i 0)) ≡ take k l ++ take (m - k) (drop (suc k) l)
gap-take k m [] h u = absurd (let z : ⊥ = omega arith in z)
gap-take zero m (x ∷ l) h u =
    let f : ℕ → ℕ = λ i. get_or (x ∷ l) i 0 in
    let e : m ≡ m - 0 = omega arith in
    table-cong m (gap 0 f) (λ i. get_or l i 0) (λ i _. gap_from 0 f i (omega arith) ∙ ap f (add-one i)) ∙ table-take m l 0 (omega arith) ∙ ap (λ (n : ℕ). take n l) e
gap-take (suc k) zero (x ∷ l) h u = absurd (let z : ⊥ = omega arith in z)
gap-take (suc k) (suc m) (x ∷ l) h u =
    let f : ℕ → ℕ = λ i. get_or (x ∷ l) i 0 in
    let e : m - k ≡ suc m - suc k = omega arith in
    let rest : table m (λ j. gap (suc k) f (suc j)) ≡ take k l ++ take (suc m - suc k) (drop (suc k) l) =
    table-cong m (λ j. gap (suc k) f (suc j)) (gap k (λ i. get_or l i 0)) (λ j _. gap-suc k f j) ∙ gap-take k m l (omega arith) (omega arith) ∙ ap (λ (n : ℕ). take k l ++ take n (drop (suc k) l)) e in
    λ i. gap_below (suc k) f 0 (omega arith) i ∷ rest i

-- what stands after place k goes one nearer, and 0 is put where the last of the n stood
pub closed-by : (n k : ℕ) (l : List ℕ) → k < n → n ≤ length l → set (paste l k (drop (k + 1) l) (n - (k + 1))) (n - 1) 0 ≡ closed n k l
closed-by n k l h u =
    let a : n - (k + 1) ≡ n - 1 - k = omega arith in
    let b : k + (n - (k + 1)) ≡ n - 1 = omega arith in
    let front : take k l ++ take (n - (k + 1)) (drop (k + 1) l) ≡ table (n - 1) (gap k (λ i. get_or l i 0)) =
    (λ i. take k l ++ take (a i) (drop (add-one k i) l)) ∙ sym (gap-take k (n - 1) l (omega arith) (omega arith)) in
    fill-last (gap k (λ i. get_or l i 0)) (n - 1) n l (paste l k (drop (k + 1) l) (n - (k + 1))) 0 0 (omega arith) (omega arith) (λ i. front i ++ drop (b i) l)
