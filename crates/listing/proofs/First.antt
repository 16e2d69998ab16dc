-- The listing is first among the reorderings, compared number by number; there is one such; swapping keeps it.
-- Assumes that any two lines of one transition have a common base.
use mathlib.Core.Path.{◌≡◌, refl, sym, ◌∙◌, ap, subst}
use mathlib.Core.Logic.{inl, inr}
use mathlib.Core.List.{List, [], ◌∷◌, ◌++◌}
use Prim.Native.Nat.{ℕ, zero, suc, ◌<◌, ◌≤◌}
use native.Mathlib.Omega.{arith}
use lib.Dec.{ltb}
use lib.ListN.{length, get_or, length-append}
use lib.Seq.{get_or-append_seam}
use borrow.Author.Tests.{ltb-true, ltb-false}
use Rattle.causal.specs.Lists.{Mem}
use Rattle.causal.specs.Reorderings.{DistinctKeys, Independent, Dependent, Reordering, Swapped, chain}
use Rattle.causal.proofs.Tests.{test, both}
use Rattle.causal.proofs.Lists.{mem-split}
use Rattle.causal.proofs.Reorderings.{in-front, rest, swapped-sym, swapped-mem, swapped-distinct, swapped-reordering}
use Rattle.net.specs.Firing.{in_set}
use Rattle.net.specs.Journal.{LiveLine, no_line}
use Rattle.firings.specs.Lines.{steps_of}
use Rattle.listing.specs.First.{NotAfter, FirstOf, step_at, next_at, without_at, ordered, listing}
use Rattle.listing.proofs.Next.{FreeAt, next-free}
use Rattle.listing.proofs.Ordered.{mem-at, next-swapped, next-length, ordered-swapped}

-- any two lines of one transition have a common base
abbrev pub Rivals : List LiveLine → Type 0
Rivals ls = (l k : LiveLine) → Mem l ls → Mem k ls → l.transition ≡ k.transition → Dependent in_set l.moved k.moved

pub rivals-swapped : {ls ms : List LiveLine} → Swapped in_set ls ms → Rivals ls → Rivals ms
rivals-swapped t rv l k u v e = rv l k (swapped-mem in_set (swapped-sym in_set t) l u) (swapped-mem in_set (swapped-sym in_set t) k v) e

-- ---- lines that can stand first

-- of one transition there is one
pub free_one : (ls : List LiveLine) (i k : ℕ) → i < length ls → k < length ls → Rivals ls → FreeAt ls i → FreeAt ls k → step_at ls i ≡ step_at ls k → i ≡ k
free_one ls i k hi hk rv fi fk e = test (ltb i k) (λ t. absurd (no i k hi hk (ltb-true i k t) fk e)) (λ t.
    test (ltb k i) (λ u. absurd (no k i hk hi (ltb-true k i u) fi (sym e))) (λ u.
    let a = ltb-false i k t in
    let b = ltb-false k i u in
    omega arith))
  where
    no : (a b : ℕ) → a < length ls → b < length ls → a < b → FreeAt ls b → step_at ls a ≡ step_at ls b → ⊥
    no a b ha hb lt f q =
        let (p, u, v) = rv (get_or ls a no_line) (get_or ls b no_line) (mem-at ls a ha) (mem-at ls b hb) (λ n. record { 0 = q n }) in
        both (in_set (get_or ls b no_line).moved p) v (f a lt p u)

-- the first line of a reordering is such, and the others are a reordering of the lines without it
pub head-free : (ls ms : List LiveLine) (j : LiveLine) → DistinctKeys ls → Reordering in_set ls (j ∷ ms)
    → (i : ℕ) × (i < length ls) × FreeAt ls i × (get_or ls i no_line ≡ j) × Reordering in_set (without_at i ls) ms
head-free ls ms j d R = let (xs, ys, q) = mem-split j ls (R.only j (inl refl)) in go xs ys q
  where
    left : (xs : List LiveLine) (ys : List LiveLine) → ((x : LiveLine) → Mem x xs → Independent in_set x.moved j.moved) → FreeAt (xs ++ j ∷ ys) (length xs)
    left xs ys h k lt p e = ap (λ (x : LiveLine). in_set x.moved p) (get_or-append_seam xs j ys no_line) ∙ h (get_or (xs ++ j ∷ ys) k no_line) (early xs k lt) p e
      where
        early : (zs : List LiveLine) (k : ℕ) → k < length zs → Mem (get_or (zs ++ j ∷ ys) k no_line) zs
        early [] k lt = absurd (let z : ⊥ = omega arith in z)
        early (z ∷ zs) zero lt = inl refl
        early (z ∷ zs) (suc k) lt = inr (early zs k (omega arith))

    others : (xs ys : List LiveLine) → without_at (length xs) (xs ++ j ∷ ys) ≡ xs ++ ys
    others [] ys = refl
    others (x ∷ xs) ys = λ i. x ∷ others xs ys i

    go : (xs ys : List LiveLine) → ls ≡ xs ++ j ∷ ys → (i : ℕ) × (i < length ls) × FreeAt ls i × (get_or ls i no_line ≡ j) × Reordering in_set (without_at i ls) ms
    go xs ys q =
        let d' : DistinctKeys (xs ++ j ∷ ys) = rw q at d in
        let R' : Reordering in_set (xs ++ j ∷ ys) (j ∷ ms) = rw q at R in
        let size : length (xs ++ j ∷ ys) ≡ _ = length-append xs (j ∷ ys) in
        subst (λ (l : List LiveLine). (i : ℕ) × (i < length l) × FreeAt l i × (get_or l i no_line ≡ j) × Reordering in_set (without_at i l) ms) (sym q) (
          length xs,
          omega arith,
          left xs ys (in-front in_set j ms xs ys d' R'),
          get_or-append_seam xs j ys no_line,
          subst (λ (l : List LiveLine). Reordering in_set l ms) (sym (others xs ys)) (rest in_set j ms xs ys d' R'),
        )

-- ---- no reordering comes before the order of the listing

ordered-first : (n : ℕ) (ls : List LiveLine) → length ls ≡ n → DistinctKeys ls → Rivals ls → (ms : List LiveLine) → Reordering in_set ls ms → NotAfter (steps_of (ordered n ls)) (steps_of ms)
ordered-first zero ls e d rv ms R = tt
ordered-first (suc n) ls e d rv [] R = R.every (get_or ls 0 no_line) (mem-at ls 0 (omega arith))
ordered-first (suc n) ls e d rv (j ∷ ms) R =
    let w : 0 < length ls = omega arith in
    let (hn, fn, least) = next-free ls w in
    let (i, hi, fi, is, R') = head-free ls ms j d R in
    let le : step_at ls (next_at ls) ≤ step_at ls i = least i hi fi in
    let at : step_at ls i ≡ j.transition.0 = ap (λ (l : LiveLine). l.transition.0) is in
    test (ltb (step_at ls (next_at ls)) j.transition.0) (λ t. inl (ltb-true (step_at ls (next_at ls)) j.transition.0 t)) (λ t.
    let ge : j.transition.0 ≤ step_at ls (next_at ls) = ltb-false (step_at ls (next_at ls)) j.transition.0 t in
    let same : step_at ls (next_at ls) ≡ j.transition.0 = omega arith in
    let one : i ≡ next_at ls = free_one ls i (next_at ls) hi hn rv fi fn (omega arith) in
    let turn = next-swapped ls w in
    let size = next-length ls w in
    inr (
      same,
      ordered-first n (without_at (next_at ls) ls) (omega arith) (swapped-distinct in_set turn d).1 (λ l k u v. rivals-swapped turn rv l k (inr u) (inr v)) ms
          (subst (λ (x : ℕ). Reordering in_set (without_at x ls) ms) one R'),
    ))

pub listing-first : (ls : List LiveLine) → DistinctKeys ls → Rivals ls → FirstOf ls (listing ls)
listing-first ls d rv = record {
  order = ordered (length ls) ls;
  reordering = swapped-reordering in_set (ordered-swapped ls) d;
  steps = refl;
  first = ordered-first (length ls) ls refl d rv;
}

-- ---- there is one first

pub not-after-both : (xs ys : List ℕ) → NotAfter xs ys → NotAfter ys xs → xs ≡ ys
not-after-both [] [] h k = refl
not-after-both [] (y ∷ ys) h k = absurd k
not-after-both (x ∷ xs) [] h k = absurd h
not-after-both (x ∷ xs) (y ∷ ys) (inl h) (inl k) = absurd (let z : ⊥ = omega arith in z)
not-after-both (x ∷ xs) (y ∷ ys) (inl h) (inr k) = let e = k.0 in absurd (let z : ⊥ = omega arith in z)
not-after-both (x ∷ xs) (y ∷ ys) (inr h) (inl k) = let e = h.0 in absurd (let z : ⊥ = omega arith in z)
not-after-both (x ∷ xs) (y ∷ ys) (inr h) (inr k) = λ i. h.0 i ∷ not-after-both xs ys h.1 k.1 i

pub first_one : (ls : List LiveLine) (ns ms : List ℕ) → FirstOf ls ns → FirstOf ls ms → ns ≡ ms
first_one ls ns ms N M = not-after-both ns ms
    (subst (NotAfter ns) (sym M.steps) (N.first M.order M.reordering))
    (subst (NotAfter ms) (sym N.steps) (M.first N.order N.reordering))

-- ---- lines that come from one another by swapping have one listing

pub listing-swapped : (ls ms : List LiveLine) → DistinctKeys ls → Rivals ls → Swapped in_set ls ms → listing ls ≡ listing ms
listing-swapped ls ms d rv t =
    let d' : DistinctKeys ms = swapped-distinct in_set t d in
    not-after-both (listing ls) (listing ms)
    (ordered-first (length ls) ls refl d rv (ordered (length ms) ms) (swapped-reordering in_set (chain t (ordered-swapped ms)) d))
    (ordered-first (length ms) ms refl d' (rivals-swapped t rv) (ordered (length ls) ls) (swapped-reordering in_set (chain (swapped-sym in_set t) (ordered-swapped ls)) d'))
