-- A list without repeats, inside another, is no longer than it; so bonds in strict order, of bases of the net, are at most
-- as many as there are pairs of bases. Assumes nothing.
use mathlib.Core.Path.{◌≡◌, refl, sym, ◌∙◌, ap}
use mathlib.Core.Bool.{true}
use mathlib.Core.Logic.{◌⊎◌, inl, inr}
use mathlib.Core.List.{List, [], ◌∷◌, ◌++◌}
use Prim.Native.Nat.{ℕ, zero, suc, ◌+◌, ◌*◌, ◌-◌, ◌<◌, ◌≤◌}
use native.Mathlib.Omega.{arith}
use native.Mathlib.Nat.{le_of_suc-le-suc, not-suc-le-zero, suc-mul, mul-suc}
use lib.Dec.{eqb}
use lib.ListN.{length, length-append}
use borrow.Author.Tests.{eqb-true, eqb-false}
use Rattle.causal.specs.Lists.{Mem, Distinct}
use Rattle.causal.proofs.Tests.{test, both}
use Rattle.causal.proofs.Lists.{mem-unskip, mem-left, mem-right, mem-split}
use Rattle.net.specs.Tests.{table}
use Rattle.net.specs.Sorted.{Ascending}
use Rattle.net.specs.Net.{Marking, Net, bond, same_bond, less_bond, has_bond, written}
use Rattle.net.specs.Marking.{Good}
use Rattle.net.specs.declared.Bond.{Bond}
use Rattle.net.proofs.Claimed.{FewBonds}
use Rattle.net.proofs.Tables.{length-table}
use Rattle.net.proofs.Bonds.{bond-order, has-mem, mem-has}

-- ---- any list

module _ {X : Type 0} where
  length-mid : (x : X) (xs ys : List X) → length (xs ++ x ∷ ys) ≡ suc (length (xs ++ ys))
  length-mid x [] ys = refl
  length-mid x (z ∷ xs) ys = ap suc (length-mid x xs ys)

  pub no_longer : (xs ys : List X) → Distinct (λ (x : X). x) xs → ((x : X) → Mem x xs → Mem x ys) → length xs ≤ length ys
  no_longer [] ys d h = omega arith
  no_longer (x ∷ xs) ys d h = let (us, vs, e) = mem-split x ys (h x (inl refl)) in go us vs e (no_longer xs (us ++ vs) d.1)
    where
      -- the others are inside what is left without x
      go : (us vs : List X) → ys ≡ us ++ x ∷ vs → (((z : X) → Mem z xs → Mem z (us ++ vs)) → length xs ≤ length (us ++ vs)) → suc (length xs) ≤ length ys
      go us vs e ih =
          let k = ih (λ z m. other z m (mem-unskip x us vs z (rw e at (h z (inr m))))) in
          rw (e, length-mid x us vs) (omega arith)
        where
          other : (z : X) → Mem z xs → (z ≡ x) ⊎ Mem z (us ++ vs) → Mem z (us ++ vs)
          other z m (inl q) = absurd (d.0 z m q)
          other z m (inr k) = k

  mem-table : (n : ℕ) (f : ℕ → X) (p : ℕ) → p < n → Mem (f p) (table n f)
  mem-table zero f p h = absurd (not-suc-le-zero h)
  mem-table (suc n) f zero h = inl refl
  mem-table (suc n) f (suc p) h = inr (mem-table n (λ k. f (suc k)) p (le_of_suc-le-suc h))

-- ---- all pairs

-- every pair p < q below n
abbrev pub pairs : ℕ → List Bond
pairs zero = []
pairs (suc n) = table n (λ p. bond p n) ++ pairs n

pub mem-pairs : (n : ℕ) (b : Bond) → b.lo < b.hi → b.hi < n → Mem b (pairs n)
mem-pairs zero b l h = absurd (not-suc-le-zero h)
mem-pairs (suc n) b l h = test (eqb b.hi n)
    (λ e. let q : b.hi ≡ n = eqb-true b.hi n e in
    mem-left (table n (λ p. bond p n)) (pairs n) b (rw (← q) (mem-table b.hi (λ p. bond p b.hi) b.lo l)))
    (λ e. let q = eqb-false b.hi n e in mem-right (table n (λ p. bond p n)) (pairs n) b (mem-pairs n b l (omega arith)))

pub pairs-count : (n : ℕ) → 2 * length (pairs n) ≡ n * (n - 1)
pairs-count zero = refl
pairs-count (suc zero) = refl
pairs-count (suc (suc n)) =
    let one : (k : ℕ) → suc k - 1 ≡ k = λ k. omega arith in
    let ih : 2 * length (pairs (suc n)) ≡ suc n * n = pairs-count (suc n) ∙ ap (λ (k : ℕ). suc n * k) (one n) in
    let a : suc (suc n) * suc n ≡ suc n * suc n + suc n = suc-mul (suc n) (suc n) in
    let b : suc n * suc n ≡ suc n * n + suc n = mul-suc (suc n) n in
    let c : length (pairs (suc (suc n))) ≡ suc n + length (pairs (suc n)) = length-append (table (suc n) (λ p. bond p (suc n))) (pairs (suc n)) ∙ ap (λ (k : ℕ). k + length (pairs (suc n))) (length-table (suc n) (λ p. bond p (suc n))) in
    rw (c, one (suc n)) (omega arith)

ascending-distinct : (bs : List Bond) → Ascending same_bond less_bond bs → Distinct (λ (b : Bond). b) bs
ascending-distinct [] p = tt
ascending-distinct (b ∷ bs) p = ((λ c m e. both (less_bond b b) (ap (less_bond b) (sym e) ∙ p.0 c (mem-has bs c m)) (bond-order.irrefl b)), ascending-distinct bs p.1)

-- Bonds in strict order, each among others, are no more than those.
pub few-among : (bs cs : List Bond) → Ascending same_bond less_bond bs → ((b : Bond) → has_bond b bs ≡ true → has_bond b cs ≡ true) → length bs ≤ length cs
few-among bs cs o h = no_longer bs cs (ascending-distinct bs o) (λ b m. has-mem cs b (h b (mem-has bs b m)))

-- The bonds of a good marking: no more than the net writes (02, T-10), and no more than there are pairs of bases.
pub few-written : (net : Net) (s : Marking) → Good net s → length s.bonds ≤ length (written net)
few-written net s g = few-among s.bonds (written net) g.order g.listed

pub few-pairs : (n : ℕ) (bs : List Bond) → Ascending same_bond less_bond bs → ((b : Bond) → has_bond b bs ≡ true → (b.lo < b.hi) × (b.hi < n)) → 2 * length bs ≤ n * (n - 1)
few-pairs n bs o r =
    let k : length bs ≤ length (pairs n) = no_longer bs (pairs n) (ascending-distinct bs o) (λ b m. let (l, h) = r b (mem-has bs b m) in mem-pairs n b l h) in
    let c = pairs-count n in
    omega arith

pub few-bonds : (net : Net) (s : Marking) → Good net s → FewBonds net s
few-bonds net s g = few-pairs net.bases s.bonds g.order g.range
