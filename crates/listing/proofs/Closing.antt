-- The lines of the live firings without the one at i, as the arrays close up.
-- Assumes nothing.
use mathlib.Core.Path.{◌≡◌, refl, sym, ◌∙◌, ap}
use mathlib.Core.Bool.{Bool, true, false}
use mathlib.Core.List.{List, [], ◌∷◌, ◌++◌}
use Prim.Native.Nat.{ℕ, zero, suc, ◌+◌, ◌-◌, ◌<◌}
use native.Mathlib.Omega.{arith}
use native.Mathlib.Numerals.{add-one}
use lib.Dec.{ltb}
use lib.ListN.{length, get_or, take, drop}
use borrow.Author.Tests.{ltb-true, ltb-false, lt-ltb, le-ltb}
use Rattle.causal.proofs.Tests.{test}
use Rattle.net.specs.Limits.{max_bases}
use Rattle.net.specs.Tests.{pick, table}
use Rattle.net.specs.Journal.{LiveLine, transition, key}
use Rattle.net.proofs.Tables.{length-table, get_d-table, table-cong}
use Rattle.words.specs.Sets.{set_of}
use Rattle.marking.specs.Shift.{gap}
use Rattle.marking.proofs.Shifts.{gap_below, gap_from}
use Rattle.firings.specs.Lines.{lines_in, closed, closed_up}
use Rattle.firings.specs.declared.Firings.{Firings}
use Rattle.firings.proofs.Lines.{line_at}
use Rattle.listing.specs.First.{without_at}

-- one further in a table with a gap
gap-next : {X : Type 0} (i : ℕ) (f : ℕ → X) (j : ℕ) → gap (suc i) f (suc j) ≡ gap i (λ x. f (suc x)) j
gap-next i f j = test (ltb j i)
    (λ e. let h = ltb-true j i e in ap (λ (b : Bool). pick b (f (suc j)) (f (suc j + 1))) (lt-ltb (suc j) (suc i) (omega arith)) ∙ sym (ap (λ (b : Bool). pick b (f (suc j)) (f (suc (j + 1)))) e))
    (λ e. let h = ltb-false j i e in
    let q : suc j + 1 ≡ suc (j + 1) = omega arith in
    ap (λ (b : Bool). pick b (f (suc j)) (f (suc j + 1))) (le-ltb (suc j) (suc i) (omega arith)) ∙ ap f q ∙ sym (ap (λ (b : Bool). pick b (f (suc j)) (f (suc (j + 1)))) e))

pub gap-table : {X : Type 0} (n i : ℕ) (f : ℕ → X) → i < n → table (n - 1) (gap i f) ≡ take i (table n f) ++ drop (suc i) (table n f)
gap-table zero i f h = absurd (let z : ⊥ = omega arith in z)
gap-table (suc n) zero f h =
    let e : suc n - 1 ≡ n = omega arith in
    ap (λ (k : ℕ). table k (gap 0 f)) e ∙ table-cong n (gap 0 f) (λ j. f (suc j)) (λ j _. gap_from 0 f j (omega arith) ∙ ap f (add-one j))
gap-table (suc zero) (suc i) f h = absurd (let z : ⊥ = omega arith in z)
gap-table (suc (suc n)) (suc i) f h =
    let e : suc (suc n) - 1 ≡ suc n = omega arith in
    let d : n ≡ suc n - 1 = omega arith in
    ap (λ (k : ℕ). table k (gap (suc i) f)) e
    ∙ (λ x. gap_below (suc i) f zero (omega arith) x ∷ table n (λ j. gap (suc i) f (suc j)))
    ∙ ap (λ (r : List _). f zero ∷ r) (table-cong n (λ j. gap (suc i) f (suc j)) (gap i (λ j. f (suc j))) (λ j _. gap-next i f j)
    ∙ ap (λ (k : ℕ). table k (gap i (λ j. f (suc j)))) d ∙ gap-table (suc n) i (λ j. f (suc j)) (omega arith))

front : (xs ys : List ℕ) (x : ℕ) → x < length xs → get_or (xs ++ ys) x 0 ≡ get_or xs x 0
front [] ys x h = absurd (let z : ⊥ = omega arith in z)
front (a ∷ xs) ys zero h = refl
front (a ∷ xs) ys (suc x) h = front xs ys x (omega arith)

-- an array that closed up
closed_at : (n i x : ℕ) (l : List ℕ) → x < n - 1 → get_or (closed n i l) x 0 ≡ gap i (λ j. get_or l j 0) x
closed_at n i x l h = front (table (n - 1) (gap i (λ j. get_or l j 0))) _ x (rw (length-table (n - 1) (gap i (λ j. get_or l j 0))) h) ∙ get_d-table (n - 1) (gap i (λ j. get_or l j 0)) x 0 h

pub lines-without : (f : Firings) (i : ℕ) → i < f.live → lines_in max_bases (closed_up i f) ≡ without_at i (lines_in max_bases f)
lines-without f i h = table-cong (f.live - 1) (line_at max_bases (closed_up i f)) (gap i at) same ∙ gap-table f.live i at h
  where
    at : ℕ → LiveLine
    at = line_at max_bases f

    made : ℕ → ℕ → ℕ → LiveLine
    made t k m = record { transition = transition t; key = key k; moved = set_of max_bases m }

    same : (x : ℕ) → x < f.live - 1 → line_at max_bases (closed_up i f) x ≡ gap i at x
    same x k = (λ a. made (closed_at f.live i x f.transitions k a) (closed_at f.live i x f.keys k a) (closed_at f.live i x f.moved k a)) ∙ go (ltb x i)
      where
        go : (b : Bool) → made (pick b (get_or f.transitions x 0) (get_or f.transitions (x + 1) 0)) (pick b (get_or f.keys x 0) (get_or f.keys (x + 1) 0)) (pick b (get_or f.moved x 0) (get_or f.moved (x + 1) 0)) ≡ pick b (at x) (at (x + 1))
        go true = refl
        go false = refl
