-- The first that passes: found in a table where none passes up to it; what is found passes.
-- Assumes nothing.
use mathlib.Core.Path.{◌≡◌, refl, sym, ap, ◌∙◌}
use mathlib.Core.Logic.{inl, inr}
use mathlib.Core.Bool.{Bool, true, false, ◌||◌}
use mathlib.Core.List.{List, [], ◌∷◌}
use Prim.Native.Nat.{ℕ, zero, suc, ◌<◌, ◌≤◌}
use native.Mathlib.Omega.{arith}
use native.Mathlib.Nat.{le_of_suc-le-suc, not-suc-le-zero}
use lib.Dec.{ltb}
use lib.ListN.{length, get_or}
use borrow.Author.Tests.{ltb-true, ltb-false}
use Rattle.causal.specs.Lists.{Mem}
use Rattle.causal.proofs.Tests.{test, both}
use Rattle.net.specs.Tests.{pick, any, table, first_at}
use Rattle.net.proofs.Tests.{fails, or-no-l, or-no-r}
use Rattle.net.proofs.Tables.{length-table}

module _ {X : Type 0} where
  first-table : (f : X → Bool) (n i : ℕ) (g : ℕ → X) → any f (table i g) ≡ false → i < n → f (g i) ≡ true → i ≡ first_at f (table n g)
  first-table f zero i g h l p = absurd (not-suc-le-zero l)
  first-table f (suc n) zero g h l p = rw p
  first-table f (suc n) (suc i) g h l p =
      let k = any f (table i (λ k. g (suc k))) in
      rw (or-no-l (f (g zero)) k h) (ap suc (first-table f n i (λ k. g (suc k)) (or-no-r (f (g zero)) k h) (le_of_suc-le-suc l) p))

  -- the loop leaves at i: x is g i as the code has it
  pub first-here : (f : X → Bool) (n i : ℕ) (g : ℕ → X) → any f (table i g) ≡ false → i < n → (x : X) → x ≡ g i → f x ≡ true → i ≡ first_at f (table n g)
  first-here f n i g h l x e p = first-table f n i g h l (ap f (sym e) ∙ p)

  first_past : (f : X → Bool) (n : ℕ) (g : ℕ → X) → any f (table n g) ≡ false → n ≡ first_at f (table n g)
  first_past f zero g h = refl
  first_past f (suc n) g h =
      let k = any f (table n (λ k. g (suc k))) in
      rw (or-no-l (f (g zero)) k h) (ap suc (first_past f n (λ k. g (suc k)) (or-no-r (f (g zero)) k h)))

  -- the loop ends at i
  pub first-none : (f : X → Bool) (n i : ℕ) (g : ℕ → X) → i ≡ n → any f (table i g) ≡ false → n ≡ first_at f (table n g)
  first-none f n i g e h = first_past f n g (ap (λ (k : ℕ). any f (table k g)) (sym e) ∙ h)

  -- the number found is no higher than the length
  pub first-most : (f : X → Bool) (l : List X) → first_at f l ≤ length l
  first-most f [] = omega arith
  first-most f (x ∷ l) = go (f x) (first-most f l)
    where
      go : (b : Bool) → first_at f l ≤ length l → pick b 0 (suc (first_at f l)) ≤ suc (length l)
      go true h = omega arith
      go false h = omega arith

  -- before it none passes
  pub first-before : (f : X → Bool) (l : List X) (d : X) (i : ℕ) → i < first_at f l → f (get_or l i d) ≡ false
  first-before f [] d i h = absurd (not-suc-le-zero h)
  first-before f (x ∷ l) d i h = go (f x) refl i h (first-before f l d)
    where
      go : (b : Bool) → f x ≡ b → (i : ℕ) → i < pick b 0 (suc (first_at f l)) → ((i : ℕ) → i < first_at f l → f (get_or l i d) ≡ false) → f (get_or (x ∷ l) i d) ≡ false
      go true e i k ih = absurd (not-suc-le-zero k)
      go false e zero k ih = e
      go false e (suc i) k ih = ih i (le_of_suc-le-suc k)

  -- where one passes, the one found is on the list
  pub first_on : (f : X → Bool) (l : List X) → any f l ≡ true → first_at f l < length l
  first_on f [] h = both false h refl
  first_on f (x ∷ l) h = go (f x) (λ k. first_on f l k) h
    where
      go : (b : Bool) → (any f l ≡ true → first_at f l < length l) → (b || any f l) ≡ true → pick b 0 (suc (first_at f l)) < suc (length l)
      go true ih k = omega arith
      go false ih k = let z = ih k in omega arith

  -- and passes
  pub first_holds : (f : X → Bool) (l : List X) (d : X) → any f l ≡ true → f (get_or l (first_at f l) d) ≡ true
  first_holds f [] d h = both false h refl
  first_holds f (x ∷ l) d h = go (f x) refl (λ k. first_holds f l d k) h
    where
      go : (b : Bool) → f x ≡ b → (any f l ≡ true → f (get_or l (first_at f l) d) ≡ true) → (b || any f l) ≡ true → f (get_or (x ∷ l) (pick b 0 (suc (first_at f l))) d) ≡ true
      go true e ih k = e
      go false e ih k = ih k

  -- the number found says whether one passes
  inside : (f : X → Bool) (l : List X) → first_at f l < length l → any f l ≡ true
  inside f [] h = absurd (not-suc-le-zero h)
  inside f (x ∷ l) h = go (f x) (λ k. inside f l k) h
    where
      go : (b : Bool) → (first_at f l < length l → any f l ≡ true) → pick b 0 (suc (first_at f l)) < suc (length l) → (b || any f l) ≡ true
      go true ih k = refl
      go false ih k = ih (le_of_suc-le-suc k)

  pub first-inside : (f : X → Bool) (n : ℕ) (g : ℕ → X) (r : ℕ) → r ≡ first_at f (table n g) → r < n → any f (table n g) ≡ true
  first-inside f n g r e h = let a = length-table n g in inside f (table n g) (omega arith)

  pub first-outside : (f : X → Bool) (n : ℕ) (g : ℕ → X) (r : ℕ) → r ≡ first_at f (table n g) → n ≤ r → any f (table n g) ≡ false
  first-outside f n g r e h = fails (any f (table n g)) (λ k. let a = first_on f (table n g) k in let b = length-table n g in omega arith)

  -- the number found is on the list exactly if one passes
  pub first-among : (f : X → Bool) (n : ℕ) (g : ℕ → X) → ltb (first_at f (table n g)) n ≡ any f (table n g)
  first-among f n g = test (ltb (first_at f (table n g)) n)
      (λ e. e ∙ sym (first-inside f n g (first_at f (table n g)) refl (ltb-true _ n e)))
      (λ e. e ∙ sym (first-outside f n g (first_at f (table n g)) refl (ltb-false _ n e)))

  -- tests that agree on a list find the same
  pub first_cong : (f g : X → Bool) (l : List X) → ((x : X) → Mem x l → f x ≡ g x) → first_at f l ≡ first_at g l
  first_cong f g [] h = refl
  first_cong f g (x ∷ l) h = let a = h x (inl refl) in let b = first_cong f g l (λ y m. h y (inr m)) in λ i. pick (a i) 0 (suc (b i))

  pub first_alike : (f g : X → Bool) (n : ℕ) (h : ℕ → X) → ((i : ℕ) → i < n → f (h i) ≡ g (h i)) → first_at f (table n h) ≡ first_at g (table n h)
  first_alike f g zero h e = refl
  first_alike f g (suc n) h e =
      let a = e 0 (omega arith) in
      let b = first_alike f g n (λ i. h (suc i)) (λ i k. e (suc i) (omega arith)) in
      λ x. pick (a x) 0 (suc (b x))
