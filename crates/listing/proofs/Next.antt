-- Where the next line of the listing stands: it has no base in common with a line before it, and is of least step among such lines.
-- Assumes nothing.
use mathlib.Core.Path.{◌≡◌, refl, sym, ◌∙◌, ap, subst}
use mathlib.Core.Logic.{◌⊎◌, inl, inr}
use mathlib.Core.Bool.{Bool, true, false, not, ◌&&◌}
use mathlib.Core.List.{List}
use Prim.Native.Nat.{ℕ, zero, suc, ◌-◌, ◌<◌, ◌≤◌}
use native.Mathlib.Omega.{arith}
use lib.Dec.{ltb}
use lib.ListN.{length, get_or}
use borrow.Author.Tests.{ltb-true, ltb-false, not-true}
use Rattle.causal.specs.Reorderings.{Independent}
use Rattle.causal.proofs.Tests.{test, both}
use Rattle.net.specs.Firing.{in_set}
use Rattle.net.specs.Journal.{LiveLine, no_line, common}
use Rattle.net.proofs.Tests.{pick-case, and_l, and_r, fails, or-e}
use Rattle.net.proofs.Keys.{common-e}
use Rattle.words.proofs.Bits.{either-at}
use Rattle.spread.proofs.Sets.{either_l, either_r, common-no}
use Rattle.listing.specs.First.{step_at, seen_to, least_to, next_at}

-- ---- the bases that the first i lines moved

pub seen-i : (ls : List LiveLine) (i k p : ℕ) → k < i → in_set (get_or ls k no_line).moved p ≡ true → in_set (seen_to ls i) p ≡ true
seen-i ls zero k p h e = absurd (let z : ⊥ = omega arith in z)
seen-i ls (suc i) k p h e = test (ltb k i)
    (λ t. either_l (seen_to ls i) (get_or ls i no_line).moved p (seen-i ls i k p (ltb-true k i t) e))
    (λ t.
    let le = ltb-false k i t in
    let q : i ≡ k = omega arith in
    either_r (seen_to ls i) (get_or ls i no_line).moved p (ap (λ (x : ℕ). in_set (get_or ls x no_line).moved p) q ∙ e))

pub seen-e : (ls : List LiveLine) (i p : ℕ) → in_set (seen_to ls i) p ≡ true → (k : ℕ) × (k < i) × (in_set (get_or ls k no_line).moved p ≡ true)
seen-e ls zero p e = both false e refl
seen-e ls (suc i) p e = go (or-e (in_set (seen_to ls i) p) (in_set (get_or ls i no_line).moved p) (sym (either-at (seen_to ls i) (get_or ls i no_line).moved p) ∙ e)) (seen-e ls i p)
  where
    go : (in_set (seen_to ls i) p ≡ true) ⊎ (in_set (get_or ls i no_line).moved p ≡ true)
        → (in_set (seen_to ls i) p ≡ true → (k : ℕ) × (k < i) × (in_set (get_or ls k no_line).moved p ≡ true))
        → (k : ℕ) × (k < suc i) × (in_set (get_or ls k no_line).moved p ≡ true)
    go (inl u) ih = let (k, h, v) = ih u in (k, omega arith, v)
    go (inr u) ih = (i, omega arith, u)

-- ---- lines with no base in common with a line before them

abbrev pub FreeAt : List LiveLine → ℕ → Type 0
FreeAt ls i = (k : ℕ) → k < i → Independent in_set (get_or ls k no_line).moved (get_or ls i no_line).moved

pub free-i : (ls : List LiveLine) (i : ℕ) → common (seen_to ls i) (get_or ls i no_line).moved ≡ false → FreeAt ls i
free-i ls i c k h p e = common-no (seen_to ls i) (get_or ls i no_line).moved c p (seen-i ls i k p h e)

pub free-e : (ls : List LiveLine) (i : ℕ) → FreeAt ls i → common (seen_to ls i) (get_or ls i no_line).moved ≡ false
free-e ls i f = fails (common (seen_to ls i) (get_or ls i no_line).moved) (λ c.
    let (p, u, v) = common-e (seen_to ls i) (get_or ls i no_line).moved c in
    let (k, h, e) = seen-e ls i p u in
    both (in_set (get_or ls i no_line).moved p) v (f k h p e))

-- j is the place of such a line, of least step among those at places 0 to i
pub record Least (ls : List LiveLine) (i j : ℕ) : Type 0 where
  pub within : j ≤ i
  pub free : FreeAt ls j
  pub least : (k : ℕ) → k ≤ i → FreeAt ls k → step_at ls j ≤ step_at ls k

pub least-to : (ls : List LiveLine) (i : ℕ) → Least ls i (least_to ls i)
least-to ls zero = record {
  within = omega arith;
  free = λ k h. absurd (let z : ⊥ = omega arith in z);
  least = λ k h f. let q : k ≡ 0 = omega arith in let e : step_at ls k ≡ step_at ls 0 = ap (step_at ls) q in omega arith;
}
least-to ls (suc i) = pick-case (Least ls (suc i)) (not (common (seen_to ls (suc i)) (get_or ls (suc i) no_line).moved) && ltb (step_at ls (suc i)) (step_at ls (least_to ls i)))
    (suc i) (least_to ls i) (newer (least-to ls i)) (older (least-to ls i))
  where
    meets : Bool
    meets = common (seen_to ls (suc i)) (get_or ls (suc i) no_line).moved

    lower : Bool
    lower = ltb (step_at ls (suc i)) (step_at ls (least_to ls i))

    newer : Least ls i (least_to ls i) → (not meets && lower) ≡ true → Least ls (suc i) (suc i)
    newer L c =
        let lt : step_at ls (suc i) < step_at ls (least_to ls i) = ltb-true (step_at ls (suc i)) (step_at ls (least_to ls i)) (and_r (not meets) lower c) in
        record {
          within = omega arith;
          free = free-i ls (suc i) (not-true meets (and_l (not meets) lower c));
          least = λ k h f. test (ltb k (suc i))
              (λ t. let u : k < suc i = ltb-true k (suc i) t in let w = L.least k (omega arith) f in omega arith)
              (λ t. let u = ltb-false k (suc i) t in let q : k ≡ suc i = omega arith in let e : step_at ls k ≡ step_at ls (suc i) = ap (step_at ls) q in omega arith);
        }

    older : Least ls i (least_to ls i) → (not meets && lower) ≡ false → Least ls (suc i) (least_to ls i)
    older L c = record {
      within = let w = L.within in omega arith;
      free = L.free;
      least = λ k h f. test (ltb k (suc i))
          (λ t. let u : k < suc i = ltb-true k (suc i) t in L.least k (omega arith) f)
          (λ t.
          let u = ltb-false k (suc i) t in
          let q : k ≡ suc i = omega arith in
          let e : step_at ls k ≡ step_at ls (suc i) = ap (step_at ls) q in
          let no : meets ≡ false = free-e ls (suc i) (subst (FreeAt ls) q f) in
          let w : step_at ls (least_to ls i) ≤ step_at ls (suc i) = ltb-false (step_at ls (suc i)) (step_at ls (least_to ls i)) (ap (λ (b : Bool). not b && lower) (sym no) ∙ c) in
          omega arith);
    }

-- The next line: one of the lines; no line before it has a base in common with it; no other such line has a lower step.
pub next-free : (ls : List LiveLine) → 0 < length ls
    → (next_at ls < length ls) × FreeAt ls (next_at ls) × ((k : ℕ) → k < length ls → FreeAt ls k → step_at ls (next_at ls) ≤ step_at ls k)
next-free ls h =
    let L : Least ls (length ls - 1) (next_at ls) = least-to ls (length ls - 1) in
    let w = L.within in
    (omega arith, L.free, λ k u f. L.least k (omega arith) f)
