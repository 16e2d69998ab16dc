-- Laws of a list with an element more or less: in an ascending list, `put` and `keep` are `slot` and `gap` at the
-- number of elements below. Assumes nothing but the order handed in.
use mathlib.Core.Path.{◌≡◌, refl, sym, ◌∙◌, ap}
use mathlib.Core.Logic.{◌⊎◌, inl, inr}
use mathlib.Core.Bool.{Bool, true, false, not, ◌||◌}
use mathlib.Core.List.{List, [], ◌∷◌}
use Prim.Native.Nat.{ℕ, zero, suc, ◌+◌, ◌-◌, ◌<◌, ◌≤◌}
use native.Mathlib.Omega.{arith}
use lib.Dec.{eqb, ltb}
use lib.ListN.{length}
use borrow.Author.Tests.{ltb-true, ltb-false, eqb-true, eqb-false, lt-ltb, le-ltb, eq-eqb, ne_eqb}
use Rattle.causal.proofs.Tests.{test, both}
use Rattle.net.specs.Tests.{pick, count, keep, table}
use Rattle.net.specs.Sorted.{has, Ascending, put}
use Rattle.net.proofs.Tests.{fails, or-e, or_l, or_r, or-no-l, or-no-r}
use Rattle.net.proofs.Tables.{table-cong}
use Rattle.net.proofs.Sorted.{Order}
use Rattle.bonds.proofs.Fill.{pick-one, count-le}
use Rattle.marking.specs.Shift.{slot, gap}

module _ {X : Type 0} (k : ℕ) (x : X) (f : ℕ → X) where
  pub slot-below : (j : ℕ) → j < k → slot k x f j ≡ f j
  slot-below j h = rw (lt-ltb j k h)

  pub slot_at : (j : ℕ) → j ≡ k → slot k x f j ≡ x
  slot_at j e = let h : k ≤ j = omega arith in rw (le-ltb j k h, eq-eqb j k e)

  pub slot-above : (j : ℕ) → k < j → slot k x f j ≡ f (j - 1)
  slot-above j h =
      let a : k ≤ j = omega arith in
      let b : j ≡ k → ⊥ = λ e. omega arith in
      rw (le-ltb j k a, ne_eqb j k b)

module _ {X : Type 0} (k : ℕ) (f : ℕ → X) where
  pub gap_below : (j : ℕ) → j < k → gap k f j ≡ f j
  gap_below j h = rw (lt-ltb j k h)

  pub gap_from : (j : ℕ) → k ≤ j → gap k f j ≡ f (j + 1)
  gap_from j h = rw (le-ltb j k h)

module _ {X Y : Type 0} (g : X → Y) where
  pub slot_map : (k : ℕ) (x : X) (f : ℕ → X) (j : ℕ) → g (slot k x f j) ≡ slot k (g x) (λ i. g (f i)) j
  slot_map k x f j = go (ltb j k) (eqb j k)
    where
      go : (b c : Bool) → g (pick b (f j) (pick c x (f (j - 1)))) ≡ pick b (g (f j)) (pick c (g x) (g (f (j - 1))))
      go true c = refl
      go false true = refl
      go false false = refl

  pub gap-map : (k : ℕ) (f : ℕ → X) (j : ℕ) → g (gap k f j) ≡ gap k (λ i. g (f i)) j
  gap-map k f j = go (ltb j k)
    where
      go : (b : Bool) → g (pick b (f j) (f (j + 1))) ≡ pick b (g (f j)) (g (f (j + 1)))
      go true = refl
      go false = refl

-- one further all through
module _ {X : Type 0} where
  slot-suc : (k : ℕ) (x : X) (f : ℕ → X) (j : ℕ) → slot k x (λ i. f (suc i)) j ≡ slot (1 + k) x f (suc j)
  slot-suc k x f j = test (ltb j k)
      (λ e. let h = ltb-true j k e in slot-below k x (λ i. f (suc i)) j h ∙ sym (slot-below (1 + k) x f (suc j) (omega arith)))
      (λ e. test (eqb j k)
      (λ d. let h = eqb-true j k d in slot_at k x (λ i. f (suc i)) j h ∙ sym (slot_at (1 + k) x f (suc j) (omega arith)))
      (λ d. let u = ltb-false j k e in let v = eqb-false j k d in let h : k < j = omega arith in let q : suc (j - 1) ≡ suc j - 1 = omega arith in
      slot-above k x (λ i. f (suc i)) j h ∙ ap f q ∙ sym (slot-above (1 + k) x f (suc j) (omega arith))))

  gap-suc : (k : ℕ) (f : ℕ → X) (j : ℕ) → gap k (λ i. f (suc i)) j ≡ gap (1 + k) f (suc j)
  gap-suc k f j = test (ltb j k)
      (λ e. let h = ltb-true j k e in gap_below k (λ i. f (suc i)) j h ∙ sym (gap_below (1 + k) f (suc j) (omega arith)))
      (λ e. let h = ltb-false j k e in let q : suc (j + 1) ≡ suc j + 1 = omega arith in gap_from k (λ i. f (suc i)) j h ∙ ap f q ∙ sym (gap_from (1 + k) f (suc j) (omega arith)))

module _ {X : Type 0} (eq lt : X → X → Bool) (O : Order eq lt) where
  count_none : (x : X) (l : List X) → ((y : X) → has eq y l ≡ true → lt x y ≡ true) → count (λ y. lt y x) l ≡ 0
  count_none x [] h = refl
  count_none x (y ∷ l) h =
      let a : lt y x ≡ false = fails (lt y x) (λ e. both (lt x x) (O.trans x y x (h y (or_l (eq y y) (has eq y l) (O.eq-same y))) e) (O.irrefl x)) in
      let b = count_none x l (λ z m. h z (or_r (eq z y) (has eq z l) m)) in
      rw a (omega arith)

  -- what is there has fewer below it than there are
  pub rank_below : (x : X) (l : List X) → has eq x l ≡ true → count (λ y. lt y x) l < length l
  rank_below x [] h = both false h refl
  rank_below x (y ∷ l) h = at (rank_below x l) (or-e (eq x y) (has eq x l) h)
    where
      at : (has eq x l ≡ true → count (λ z. lt z x) l < length l) → (eq x y ≡ true) ⊎ (has eq x l ≡ true) → count (λ z. lt z x) (y ∷ l) < length (y ∷ l)
      at ih (inl e) =
          let q : lt y x ≡ false = ap (λ (z : X). lt z x) (sym (O.same-eq x y e)) ∙ O.irrefl x in
          let c = count-le (λ z. lt z x) l in
          rw q (omega arith)
      at ih (inr e) = let c = ih e in let d = pick-one (lt y x) in omega arith

  -- where x is not there, what is not x is all
  pub keep-absent : (x : X) (l : List X) → has eq x l ≡ false → keep (λ y. not (eq y x)) l ≡ l
  keep-absent x [] h = refl
  keep-absent x (y ∷ l) h =
      let a : eq y x ≡ false = fails (eq y x) (λ e. both (eq x y) (ap (λ (z : X). eq x z) (O.same-eq y x e) ∙ O.eq-same x) (or-no-l (eq x y) (has eq x l) h)) in
      rw a (ap (λ (k : List X). y ∷ k) (keep-absent x l (or-no-r (eq x y) (has eq x l) h)))

  pub put-present : (x : X) (l : List X) → Ascending eq lt l → has eq x l ≡ true → put eq lt x l ≡ l
  put-present x [] p h = both false h refl
  put-present x (y ∷ l) p h = go (eq x y) refl (put-present x l p.1) h
    where
      go : (b : Bool) → eq x y ≡ b → (has eq x l ≡ true → put eq lt x l ≡ l) → (b || has eq x l) ≡ true → pick b (y ∷ l) (pick (lt x y) (x ∷ y ∷ l) (y ∷ put eq lt x l)) ≡ y ∷ l
      go true e ih m = refl
      go false e ih m =
          let a : lt x y ≡ false = fails (lt x y) (λ d. both (lt x x) (O.trans x y x d (p.0 x m)) (O.irrefl x)) in
          rw a (ap (λ (k : List X). y ∷ k) (ih m))

  pub put-table : (x : X) (n : ℕ) (f : ℕ → X) → Ascending eq lt (table n f) → has eq x (table n f) ≡ false
      → put eq lt x (table n f) ≡ table (suc n) (slot (count (λ y. lt y x) (table n f)) x f)
  put-table x zero f p h = refl
  put-table x (suc n) f p h = test (lt x (f zero)) low (high (put-table x n (λ k. f (suc k)) p.1 (or-no-r (eq x (f zero)) (has eq x rest) h)))
    where
      rest : List X
      rest = table n (λ k. f (suc k))

      below : List X → ℕ
      below l = count (λ y. lt y x) l

      ne : eq x (f zero) ≡ false
      ne = or-no-l (eq x (f zero)) (has eq x rest) h

      low : lt x (f zero) ≡ true → put eq lt x (f zero ∷ rest) ≡ table (suc (suc n)) (slot (below (f zero ∷ rest)) x f)
      low e =
          let no : below (f zero ∷ rest) ≡ 0 = count_none x (f zero ∷ rest) (λ y m. above y (or-e (eq y (f zero)) (has eq y rest) m)) in
          let shape : table (suc n) f ≡ table (suc n) (λ j. slot 0 x f (suc j)) =
          table-cong (suc n) f (λ j. slot 0 x f (suc j)) (λ j l. let q : suc j - 1 ≡ j = omega arith in sym (slot-above 0 x f (suc j) (omega arith) ∙ ap f q)) in
          rw (ne, e) ((λ i. sym (slot_at 0 x f 0 refl) i ∷ shape i) ∙ ap (λ (k : ℕ). table (suc (suc n)) (slot k x f)) (sym no))
        where
          above : (y : X) → (eq y (f zero) ≡ true) ⊎ (has eq y rest ≡ true) → lt x y ≡ true
          above y (inl m) = rw (O.same-eq y (f zero) m) e
          above y (inr m) = O.trans x (f zero) y e (p.0 y m)

      high : put eq lt x rest ≡ table (suc n) (slot (below rest) x (λ k. f (suc k))) → lt x (f zero) ≡ false
          → put eq lt x (f zero ∷ rest) ≡ table (suc (suc n)) (slot (below (f zero ∷ rest)) x f)
      high ih e =
          let one : below (f zero ∷ rest) ≡ 1 + below rest = rw (O.tri x (f zero) e ne) in
          let shape : put eq lt x rest ≡ table (suc n) (λ j. slot (1 + below rest) x f (suc j)) =
          ih ∙ table-cong (suc n) (slot (below rest) x (λ k. f (suc k))) (λ j. slot (1 + below rest) x f (suc j)) (λ j l. slot-suc (below rest) x f j) in
          rw (ne, e) ((λ i. sym (slot-below (1 + below rest) x f 0 (omega arith)) i ∷ shape i) ∙ ap (λ (k : ℕ). table (suc (suc n)) (slot k x f)) (sym one))

  some-there : (x : X) (n : ℕ) (f : ℕ → X) → has eq x (table n f) ≡ true → n ≡ suc (n - 1)
  some-there x zero f h = both false h refl
  some-there x (suc n) f h = omega arith

  pub keep-table : (x : X) (n : ℕ) (f : ℕ → X) → Ascending eq lt (table n f) → has eq x (table n f) ≡ true
      → keep (λ y. not (eq y x)) (table n f) ≡ table (n - 1) (gap (count (λ y. lt y x) (table n f)) f)
  keep-table x zero f p h = both false h refl
  keep-table x (suc n) f p h = test (eq (f zero) x) here (there (keep-table x n (λ k. f (suc k)) p.1))
    where
      rest : List X
      rest = table n (λ k. f (suc k))

      below : List X → ℕ
      below l = count (λ y. lt y x) l

      others : List X → List X
      others l = keep (λ y. not (eq y x)) l

      last : n ≡ suc n - 1
      last = omega arith

      here : eq (f zero) x ≡ true → others (f zero ∷ rest) ≡ table (suc n - 1) (gap (below (f zero ∷ rest)) f)
      here e =
          let same : f zero ≡ x = O.same-eq (f zero) x e in
          let more : (y : X) → has eq y rest ≡ true → lt x y ≡ true = λ y m. rw (← same) (p.0 y m) in
          let absent : has eq x rest ≡ false = fails (has eq x rest) (λ m. both (lt x x) (more x m) (O.irrefl x)) in
          let none : below rest ≡ 0 = count_none x rest more in
          let low : lt (f zero) x ≡ false = ap (λ (z : X). lt z x) same ∙ O.irrefl x in
          let no : below (f zero ∷ rest) ≡ 0 = rw low (omega arith) in
          let shape : rest ≡ table n (gap 0 f) = table-cong n (λ k. f (suc k)) (gap 0 f) (λ j l. let q : suc j ≡ j + 1 = omega arith in ap f q ∙ sym (gap_from 0 f j (omega arith))) in
          rw e (keep-absent x rest absent ∙ shape ∙ ap (λ (k : ℕ). table n (gap k f)) (sym no) ∙ ap (λ (k : ℕ). table k (gap (below (f zero ∷ rest)) f)) last)

      there : (has eq x rest ≡ true → others rest ≡ table (n - 1) (gap (below rest) (λ k. f (suc k)))) → eq (f zero) x ≡ false
          → others (f zero ∷ rest) ≡ table (suc n - 1) (gap (below (f zero ∷ rest)) f)
      there ih e =
          let present : has eq x rest ≡ true = later (or-e (eq x (f zero)) (has eq x rest) h) in
          let one : below (f zero ∷ rest) ≡ 1 + below rest = rw (p.0 x present) in
          let some : n ≡ suc (n - 1) = some-there x n (λ k. f (suc k)) present in
          let tail : others rest ≡ table (n - 1) (λ j. gap (1 + below rest) f (suc j)) =
          ih present ∙ table-cong (n - 1) (gap (below rest) (λ k. f (suc k))) (λ j. gap (1 + below rest) f (suc j)) (λ j l. gap-suc (below rest) f j) in
          rw e ((λ i. sym (gap_below (1 + below rest) f 0 (omega arith)) i ∷ tail i)
          ∙ ap (λ (k : ℕ). table (suc (n - 1)) (gap k f)) (sym one) ∙ ap (λ (k : ℕ). table k (gap (below (f zero ∷ rest)) f)) (sym some ∙ last))
        where
          later : (eq x (f zero) ≡ true) ⊎ (has eq x rest ≡ true) → has eq x rest ≡ true
          later (inl d) = both (eq (f zero) x) (ap (λ (z : X). eq z x) (sym (O.same-eq x (f zero) d)) ∙ O.eq-same x) e
          later (inr m) = m
