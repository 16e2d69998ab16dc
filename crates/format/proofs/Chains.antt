-- What the library's chains answer over a list, or over a range of numbers that index a table f 0, .., f (n - 1), in the words of net's
-- specs. Those named `in_table` take what the chain's call ensures, and that its closure computes the test.
-- Assumes nothing.
use Rattle.std.proofs.Common.{◌≡◌, refl, sym, ◌∙◌, ap, Bool, true, false, List, [], ◌∷◌, ℕ, zero, suc, ◌+◌, ◌-◌, arith, add-zero, cond, Option, Some, MatchOption, unwrap_or, Bor}
use Rattle.std.proofs.iter.Yields.{nat_range_steps}
use Rattle.std.proofs.lemmas.Iterator.{YieldsList-from_range}
use Rattle.std.proofs.lemmas.Iterator.Adapters.{option_map_id}
use Rattle.std.proofs.lemmas.Iterator.Search.{all_from_yields_List, any_from_yields_List, find_from_yields_List}
use Rattle.std.specs.Bool.{⊤}
use Rattle.std.specs.Fn.{Called, CalledAt}
use Rattle.std.specs.Iterator.{YieldsThen}
use Rattle.std.specs.List.{FoldsTo, list_all, list_any, find, range_with_len}
use Rattle.std.specs.declared.ops.Range.{Range}
use denote.Param.Members.{Mut}
use mathlib.Core.Bool.{◌&&◌, ◌||◌}
use Rattle.net.specs.Tests.{pick, all, any, first_at, table}
use Rattle.net.specs.Sorted.{ascends}
use Rattle.format.proofs.Loops.{self, below, ascends-table}

module _ {X : Type 0} where
  pub list_all-all : (t : X → Bool) (xs : List X) → list_all t xs ≡ all t xs
  list_all-all t [] = refl
  list_all-all t (x ∷ xs) = ap (λ (b : Bool). t x && b) (list_all-all t xs)

  -- the closure's test g of the number a + k is the test t of f k
  list_all-table : (t : X → Bool) (f : ℕ → X) (g : ℕ → Bool) (a n : ℕ) → ((k : ℕ) → g (a + k) ≡ t (f k))
      → list_all g (range_with_len a n) ≡ all t (table n f)
  list_all-table t f g a zero h = refl
  list_all-table t f g a (suc n) h =
      let first : g a ≡ t (f zero) = ap g (sym (add-zero a)) ∙ h zero in
      let rest : list_all g (range_with_len (a + 1) n) ≡ all t (table n (λ k. f (suc k))) = list_all-table t (λ k. f (suc k)) g (a + 1) n (λ k. let e : a + 1 + k ≡ a + suc k = omega arith in ap g e ∙ h (suc k)) in
      ap (λ (b : Bool). b && list_all g (range_with_len (a + 1) n)) first ∙ ap (λ (b : Bool). t (f zero) && b) rest

  list_any-table : (t : X → Bool) (f : ℕ → X) (g : ℕ → Bool) (a n : ℕ) → ((k : ℕ) → g (a + k) ≡ t (f k))
      → list_any g (range_with_len a n) ≡ any t (table n f)
  list_any-table t f g a zero h = refl
  list_any-table t f g a (suc n) h =
      let first : g a ≡ t (f zero) = ap g (sym (add-zero a)) ∙ h zero in
      let rest : list_any g (range_with_len (a + 1) n) ≡ any t (table n (λ k. f (suc k))) = list_any-table t (λ k. f (suc k)) g (a + 1) n (λ k. let e : a + 1 + k ≡ a + suc k = omega arith in ap g e ∙ h (suc k)) in
      ap (λ (b : Bool). b || list_any g (range_with_len (a + 1) n)) first ∙ ap (λ (b : Bool). t (f zero) || b) rest

  find-table : (t : X → Bool) (f : ℕ → X) (g : ℕ → Bool) (a n : ℕ) → ((k : ℕ) → g (a + k) ≡ t (f k))
      → unwrap_or (find g (range_with_len a n)) (a + n) ≡ a + first_at t (table n f)
  find-table t f g a zero h = refl
  find-table t f g a (suc n) h =
      let first : g a ≡ t (f zero) = ap g (sym (add-zero a)) ∙ h zero in
      let rest : unwrap_or (find g (range_with_len (a + 1) n)) (a + 1 + n) ≡ a + 1 + first_at t (table n (λ k. f (suc k))) = find-table t (λ k. f (suc k)) g (a + 1) n (λ k. let e : a + 1 + k ≡ a + suc k = omega arith in ap g e ∙ h (suc k)) in
      rw first (go (t (f zero)) rest)
    where
      go : (b : Bool) → unwrap_or (find g (range_with_len (a + 1) n)) (a + 1 + n) ≡ a + 1 + first_at t (table n (λ k. f (suc k)))
          → unwrap_or (cond b (Some a) (find g (range_with_len (a + 1) n))) (a + suc n) ≡ a + pick b 0 (suc (first_at t (table n (λ k. f (suc k)))))
      go true e = sym (add-zero a)
      go false e =
          let u : a + suc n ≡ a + 1 + n = omega arith in
          let v : a + 1 + first_at t (table n (λ k. f (suc k))) ≡ a + suc (first_at t (table n (λ k. f (suc k)))) = omega arith in
          ap (unwrap_or (find g (range_with_len (a + 1) n))) u ∙ (e ∙ v)

-- `(0..n).all(|i| t(f(i)))`
pub all_in_table : {X F : Type 0} {g : Mut F (ℕ × Unit {0}) Bool} {s : Range ℕ} (t : X → Bool) (f : ℕ → X) (n : ℕ) {u : Range ℕ} {p : F} {r : Bool}
    → (xs : List ℕ) × (o : Option ℕ) × (j : F) × YieldsThen nat_range_steps s xs o u × FoldsTo (λ q x w. Called g q (x, tt) true w) p xs j × MatchOption o (r ≡ true) (λ x. (r ≡ false) × ((h : F) × Called g j (x, tt) false h))
    → s ≡ record { start = 0; end = n }
    → ((x : ℕ) (b : Bool) (q : F) → Called g p (x, tt) b q → (q ≡ p) × (b ≡ t (f x)))
    → r ≡ all t (table n f)
all_in_table t f n ran e computes =
    all_from_yields_List (λ i. t (f i)) _ _ _ ran (YieldsList-from_range 0 n n e (omega arith)) computes
    ∙ list_all-table t f (λ i. t (f i)) 0 n (λ k. let z : 0 + k ≡ k = omega arith in ap (λ (i : ℕ). t (f i)) z)

-- `(0..n).any(|i| t(f(i)))`
pub any_in_table : {X F : Type 0} {g : Mut F (ℕ × Unit {0}) Bool} {s : Range ℕ} (t : X → Bool) (f : ℕ → X) (n : ℕ) {u : Range ℕ} {p : F} {r : Bool}
    → (xs : List ℕ) × (o : Option ℕ) × (j : F) × YieldsThen nat_range_steps s xs o u × FoldsTo (λ q x w. Called g q (x, tt) false w) p xs j × MatchOption o (r ≡ false) (λ x. (r ≡ true) × ((h : F) × Called g j (x, tt) true h))
    → s ≡ record { start = 0; end = n }
    → ((x : ℕ) (b : Bool) (q : F) → Called g p (x, tt) b q → (q ≡ p) × (b ≡ t (f x)))
    → r ≡ any t (table n f)
any_in_table t f n ran e computes =
    any_from_yields_List (λ i. t (f i)) _ _ _ ran (YieldsList-from_range 0 n n e (omega arith)) computes
    ∙ list_any-table t f (λ i. t (f i)) 0 n (λ k. let z : 0 + k ≡ k = omega arith in ap (λ (i : ℕ). t (f i)) z)

-- `(1..n).all(|i| lt(f(i - 1), f(i)))`
pub ascends_in_table : {X F : Type 0} {g : Mut F (ℕ × Unit {0}) Bool} {s : Range ℕ} (lt : X → X → Bool) (f : ℕ → X) (n : ℕ) {u : Range ℕ} {p : F} {r : Bool}
    → (xs : List ℕ) × (o : Option ℕ) × (j : F) × YieldsThen nat_range_steps s xs o u × FoldsTo (λ q x w. Called g q (x, tt) true w) p xs j × MatchOption o (r ≡ true) (λ x. (r ≡ false) × ((h : F) × Called g j (x, tt) false h))
    → s ≡ record { start = 1; end = n }
    → ((x : ℕ) (b : Bool) (q : F) → Called g p (x, tt) b q → (q ≡ p) × (b ≡ lt (f (x - 1)) (f x)))
    → r ≡ ascends lt (table n f)
ascends_in_table lt f n ran e computes =
    all_from_yields_List (λ i. lt (f (i - 1)) (f i)) _ _ _ ran (YieldsList-from_range 1 n (n - 1) e refl) computes
    ∙ list_all-table self (below lt f) (λ i. lt (f (i - 1)) (f i)) 1 (n - 1) (λ k. let x : 1 + k - 1 ≡ k = omega arith in let y : 1 + k ≡ k + 1 = omega arith in rw (x, y))
    ∙ sym (ascends-table lt n f)

-- `(0..n).find(|&i| t(f(i))).unwrap_or(n)`
pub find_in_table : {X F : Type 0} {g : Mut F (Bor ℕ × Unit {0}) Bool} {s : Range ℕ} (t : X → Bool) (f : ℕ → X) (n : ℕ) (u : Range ℕ) {p : F} (r : Option ℕ)
    → (xs : List ℕ) × (j : F) × YieldsThen nat_range_steps s xs r u × FoldsTo (λ q x w. CalledAt g q x false w) p xs j × MatchOption r ⊤ (λ x. (h : F) × CalledAt g j x true h)
    → s ≡ record { start = 0; end = n }
    → ((x : ℕ) (b : Bool) (q : F) → CalledAt g p x b q → (q ≡ p) × (b ≡ t (f x)))
    → unwrap_or r n ≡ first_at t (table n f)
find_in_table t f n u r ran e computes =
    let a : r ≡ find (λ i. t (f i)) (range_with_len 0 n) = sym (option_map_id r) ∙ find_from_yields_List (λ i. t (f i)) u _ r ran (YieldsList-from_range 0 n n e (omega arith)) computes in
    let z : 0 + n ≡ n = omega arith in
    let y : 0 + first_at t (table n f) ≡ first_at t (table n f) = omega arith in
    ap (λ (o : Option ℕ). unwrap_or o n) a
    ∙ ap (unwrap_or (find (λ i. t (f i)) (range_with_len 0 n))) (sym z)
    ∙ find-table t f (λ i. t (f i)) 0 n (λ k. let z : 0 + k ≡ k = omega arith in ap (λ (i : ℕ). t (f i)) z)
    ∙ y
