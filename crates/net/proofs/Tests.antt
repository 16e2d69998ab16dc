-- Laws of tests: what an equation of a test says, and `all`, `any`, `keep`, `same_list` on a list.
-- Assumes nothing.
use mathlib.Core.Path.{◌≡◌, refl, sym, ◌∙◌, ap}
use mathlib.Core.Logic.{◌⊎◌, inl, inr}
use mathlib.Core.Bool.{Bool, true, false, ◌&&◌, ◌||◌, beq}
use mathlib.Core.List.{List, [], ◌∷◌, ◌++◌}
use Prim.Native.Nat.{ℕ, zero, suc, ◌<◌}
use native.Mathlib.Nat.{le_of_suc-le-suc, not-suc-le-zero}
use lib.ListN.{length, get_or}
use Rattle.causal.specs.Lists.{Mem}
use Rattle.causal.proofs.Tests.{both}
use Rattle.net.specs.Tests.{pick, all, any, keep, same_list}

-- ---- one or two tests

-- two tests are equal if each passes where the other does
pub same_test : (a b : Bool) → (a ≡ true → b ≡ true) → (b ≡ true → a ≡ true) → a ≡ b
same_test true b f g = sym (f refl)
same_test false true f g = g refl
same_test false false f g = refl

-- a test that cannot pass fails
pub fails : (b : Bool) → (b ≡ true → ⊥) → b ≡ false
fails true f = absurd (f refl)
fails false f = refl

pub and_l : (a b : Bool) → (a && b) ≡ true → a ≡ true
and_l true b e = refl
and_l false b e = e

pub and_r : (a b : Bool) → (a && b) ≡ true → b ≡ true
and_r true b e = e
and_r false b e = both false e refl

pub and_i : (a b : Bool) → a ≡ true → b ≡ true → (a && b) ≡ true
and_i a b p q = rw (p, q)

pub or-e : (a b : Bool) → (a || b) ≡ true → (a ≡ true) ⊎ (b ≡ true)
or-e true b e = inl refl
or-e false b e = inr e

pub or_l : (a b : Bool) → a ≡ true → (a || b) ≡ true
or_l a b p = rw p

pub or_r : (a b : Bool) → b ≡ true → (a || b) ≡ true
or_r true b p = refl
or_r false b p = p

pub or-no-l : (a b : Bool) → (a || b) ≡ false → a ≡ false
or-no-l true b e = both true refl e
or-no-l false b e = refl

pub or-no-r : (a b : Bool) → (a || b) ≡ false → b ≡ false
or-no-r true b e = both true refl e
or-no-r false b e = e

pub or_swap : (a b c : Bool) → (a || (b || c)) ≡ (b || (a || c))
or_swap true true c = refl
or_swap true false c = refl
or_swap false true c = refl
or_swap false false c = refl

pub beq-e : (x y : Bool) → beq x y ≡ true → x ≡ y
beq-e true true h = refl
beq-e true false h = sym h
beq-e false true h = h
beq-e false false h = refl

pub beq-i : (x : Bool) → beq x x ≡ true
beq-i true = refl
beq-i false = refl

-- ---- choosing

module _ {X : Type 0} where
  pub pick-case : (P : X → Type 0) (c : Bool) (x y : X) → (c ≡ true → P x) → (c ≡ false → P y) → P (pick c x y)
  pick-case P true x y f g = f refl
  pick-case P false x y f g = g refl

  pub pick_same : (c : Bool) (x : X) → pick c x x ≡ x
  pick_same true x = refl
  pick_same false x = refl

-- ---- lists

module _ {X : Type 0} where
  pub all-e : (f : X → Bool) (xs : List X) → all f xs ≡ true → (x : X) → Mem x xs → f x ≡ true
  all-e f [] h x m = absurd m
  all-e f (y ∷ ys) h x (inl e) = rw e (and_l (f y) (all f ys) h)
  all-e f (y ∷ ys) h x (inr m) = all-e f ys (and_r (f y) (all f ys) h) x m

  pub all-i : (f : X → Bool) (xs : List X) → ((x : X) → Mem x xs → f x ≡ true) → all f xs ≡ true
  all-i f [] h = refl
  all-i f (x ∷ xs) h = and_i (f x) (all f xs) (h x (inl refl)) (all-i f xs (λ y m. h y (inr m)))

  pub any-i : (f : X → Bool) (xs : List X) (x : X) → Mem x xs → f x ≡ true → any f xs ≡ true
  any-i f [] x m p = absurd m
  any-i f (y ∷ ys) x (inl e) p = or_l (f y) (any f ys) (rw e at p)
  any-i f (y ∷ ys) x (inr m) p = or_r (f y) (any f ys) (any-i f ys x m p)

  pub any-e : (f : X → Bool) (xs : List X) → any f xs ≡ true → (x : X) × Mem x xs × (f x ≡ true)
  any-e f [] h = both false h refl
  any-e f (y ∷ ys) h = elim (or-e (f y) (any f ys) h) [ inl p ↦ (y, inl refl, p) | inr p ↦ let (x, m, q) = any-e f ys p in (x, inr m, q) ]

  -- where none passes, each fails
  pub any-no : (f : X → Bool) (xs : List X) → any f xs ≡ false → (x : X) → Mem x xs → f x ≡ false
  any-no f xs h x m = fails (f x) (λ p. both (any f xs) (any-i f xs x m p) h)

  pub any-cong : (f g : X → Bool) (xs : List X) → ((x : X) → Mem x xs → f x ≡ g x) → any f xs ≡ any g xs
  any-cong f g [] h = refl
  any-cong f g (x ∷ xs) h = rw (h x (inl refl), any-cong f g xs (λ y m. h y (inr m)))

  -- what holds of all holds of the one at i
  pub all-at : (f : X → Bool) (l : List X) (d : X) (i : ℕ) → all f l ≡ true → i < length l → f (get_or l i d) ≡ true
  all-at f [] d i h k = absurd (not-suc-le-zero k)
  all-at f (x ∷ xs) d zero h k = and_l (f x) (all f xs) h
  all-at f (x ∷ xs) d (suc i) h k = all-at f xs d i (and_r (f x) (all f xs) h) (le_of_suc-le-suc k)

  pub all_append : (f : X → Bool) (xs ys : List X) → all f (xs ++ ys) ≡ (all f xs && all f ys)
  all_append f [] ys = refl
  all_append f (x ∷ xs) ys = go (f x) (all_append f xs ys)
    where
      go : (b : Bool) → all f (xs ++ ys) ≡ (all f xs && all f ys) → (b && all f (xs ++ ys)) ≡ ((b && all f xs) && all f ys)
      go true e = e
      go false e = refl

  pub any_append : (f : X → Bool) (xs ys : List X) → any f (xs ++ ys) ≡ (any f xs || any f ys)
  any_append f [] ys = refl
  any_append f (x ∷ xs) ys = go (f x) (any_append f xs ys)
    where
      go : (b : Bool) → any f (xs ++ ys) ≡ (any f xs || any f ys) → (b || any f (xs ++ ys)) ≡ ((b || any f xs) || any f ys)
      go true e = refl
      go false e = e

-- ---- what passes

module _ {X : Type 0} where
  pub keep-mem : (f : X → Bool) (xs : List X) (x : X) → Mem x (keep f xs) → Mem x xs × (f x ≡ true)
  keep-mem f [] x h = absurd h
  keep-mem f (y ∷ ys) x h = go (f y) refl h (keep-mem f ys x)
    where
      go : (b : Bool) → f y ≡ b → Mem x (pick b (y ∷ keep f ys) (keep f ys)) → (Mem x (keep f ys) → Mem x ys × (f x ≡ true)) → Mem x (y ∷ ys) × (f x ≡ true)
      go true e (inl q) ih = (inl q, ap f q ∙ e)
      go true e (inr m) ih = let (a, b) = ih m in (inr a, b)
      go false e m ih = let (a, b) = ih m in (inr a, b)

  pub mem-keep : (f : X → Bool) (xs : List X) (x : X) → Mem x xs → f x ≡ true → Mem x (keep f xs)
  mem-keep f [] x h p = absurd h
  mem-keep f (y ∷ ys) x (inl e) p = rw (sym (ap f e) ∙ p) (inl e)
  mem-keep f (y ∷ ys) x (inr m) p = pick-case (λ (l : List X). Mem x l) (f y) (y ∷ keep f ys) (keep f ys) (λ _. inr (mem-keep f ys x m p)) (λ _. mem-keep f ys x m p)

  pub keep-cong : (f g : X → Bool) (xs : List X) → ((x : X) → Mem x xs → f x ≡ g x) → keep f xs ≡ keep g xs
  keep-cong f g [] h = refl
  keep-cong f g (x ∷ xs) h = rw (h x (inl refl), keep-cong f g xs (λ y m. h y (inr m)))

  pub keep-yes : (xs : List X) → keep (λ x. true) xs ≡ xs
  keep-yes [] = refl
  keep-yes (x ∷ xs) = λ i. x ∷ keep-yes xs i

  pub keep-keep : (f g : X → Bool) (xs : List X) → keep g (keep f xs) ≡ keep (λ x. f x && g x) xs
  keep-keep f g [] = refl
  keep-keep f g (x ∷ xs) = go (f x) (g x) refl (keep-keep f g xs)
    where
      go : (a b : Bool) → g x ≡ b → keep g (keep f xs) ≡ keep (λ y. f y && g y) xs
          → keep g (pick a (x ∷ keep f xs) (keep f xs)) ≡ pick (a && b) (x ∷ keep (λ y. f y && g y) xs) (keep (λ y. f y && g y) xs)
      go true true e ih = rw (e, ih)
      go true false e ih = rw (e, ih)
      go false b e ih = ih

-- ---- equal lists

module _ {X : Type 0} (eq : X → X → Bool) where
  pub same-e : ((x y : X) → eq x y ≡ true → x ≡ y) → (l k : List X) → same_list eq l k ≡ true → l ≡ k
  same-e f [] [] h = refl
  same-e f [] (y ∷ ys) h = both false h refl
  same-e f (x ∷ xs) [] h = both false h refl
  same-e f (x ∷ xs) (y ∷ ys) h =
      let p : x ≡ y = f x y (and_l (eq x y) (same_list eq xs ys) h) in
      let q : xs ≡ ys = same-e f xs ys (and_r (eq x y) (same_list eq xs ys) h) in
      λ i. p i ∷ q i

  pub same-i : ((x : X) → eq x x ≡ true) → (l : List X) → same_list eq l l ≡ true
  same-i f [] = refl
  same-i f (x ∷ xs) = and_i (eq x x) (same_list eq xs xs) (f x) (same-i f xs)
