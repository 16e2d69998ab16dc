-- Laws of strictly ascending lists, over any order given by tests.
-- Assumes nothing but the order handed in.
use mathlib.Core.Path.{◌≡◌, refl, sym, ◌∙◌, ap}
use mathlib.Core.Logic.{◌⊎◌, inl, inr}
use mathlib.Core.Bool.{Bool, true, false, not, ◌&&◌, ◌||◌, or_self_left, or_assoc, and-false as and_no, and-true as and_yes}
use mathlib.Core.List.{List, [], ◌∷◌}
use Rattle.causal.proofs.Tests.{both}
use Rattle.net.specs.Tests.{pick, keep}
use Rattle.net.specs.Sorted.{ascends, has, Ascending, put, puts}
use Rattle.net.proofs.Tests.{fails, and_l, and_r, or-e, or_l, or_swap}

module _ {X : Type 0} (eq lt : X → X → Bool) where
  pub record Order : Type 0 where
    pub eq-same : (x : X) → eq x x ≡ true
    pub same-eq : (x y : X) → eq x y ≡ true → x ≡ y
    pub irrefl : (x : X) → lt x x ≡ false
    pub trans : (x y z : X) → lt x y ≡ true → lt y z ≡ true → lt x z ≡ true
    pub tri : (x y : X) → lt x y ≡ false → eq x y ≡ false → lt y x ≡ true

  module _ (O : Order) where
    pub has-put : (z x : X) (l : List X) → has eq z (put eq lt x l) ≡ (eq z x || has eq z l)
    has-put z x [] = refl
    has-put z x (y ∷ ys) = go (eq x y) (lt x y) refl refl (has-put z x ys)
      where
        go : (b c : Bool) → eq x y ≡ b → lt x y ≡ c → has eq z (put eq lt x ys) ≡ (eq z x || has eq z ys)
            → has eq z (pick b (y ∷ ys) (pick c (x ∷ y ∷ ys) (y ∷ put eq lt x ys))) ≡ (eq z x || (eq z y || has eq z ys))
        go true c e d ih = rw (O.same-eq x y e) (sym (or_self_left (eq z y) (has eq z ys)))
        go false true e d ih = refl
        go false false e d ih = ap (λ (t : Bool). eq z y || t) ih ∙ or_swap (eq z y) (eq z x) (has eq z ys)

    pub has-keep : (f : X → Bool) (z : X) (l : List X) → has eq z (keep f l) ≡ (has eq z l && f z)
    has-keep f z [] = refl
    has-keep f z (y ∷ ys) = go (f y) (eq z y) refl refl (has-keep f z ys)
      where
        go : (b c : Bool) → f y ≡ b → eq z y ≡ c → has eq z (keep f ys) ≡ (has eq z ys && f z) → has eq z (pick b (y ∷ keep f ys) (keep f ys)) ≡ ((c || has eq z ys) && f z)
        go true true e d ih = rw (d, O.same-eq z y d, e)
        go true false e d ih = rw d ih
        go false true e d ih = ih ∙ rw (O.same-eq z y d, e) (and_no (has eq y ys))
        go false false e d ih = ih

    below_self : (x : X) (xs : List X) → Ascending eq lt (x ∷ xs) → has eq x xs ≡ false
    below_self x xs p = fails (has eq x xs) (λ e. both (lt x x) (p.0 x e) (O.irrefl x))

    -- what follows the head: the list's elements but the head
    has-tail : (x : X) (xs : List X) → Ascending eq lt (x ∷ xs) → (z : X) → has eq z xs ≡ (has eq z (x ∷ xs) && not (eq z x))
    has-tail x xs p z = go (eq z x) refl
      where
        go : (b : Bool) → eq z x ≡ b → has eq z xs ≡ ((b || has eq z xs) && not b)
        go true e = rw (O.same-eq z x e) (below_self x xs p)
        go false e = sym (and_yes (has eq z xs))

    -- two such lists with the same elements are equal
    pub ascending-ext : (l k : List X) → Ascending eq lt l → Ascending eq lt k → ((z : X) → has eq z l ≡ has eq z k) → l ≡ k
    ascending-ext [] [] p q h = refl
    ascending-ext [] (y ∷ ys) p q h = both (has eq y (y ∷ ys)) (or_l (eq y y) (has eq y ys) (O.eq-same y)) (sym (h y))
    ascending-ext (x ∷ xs) [] p q h = both (has eq x (x ∷ xs)) (or_l (eq x x) (has eq x xs) (O.eq-same x)) (h x)
    ascending-ext (x ∷ xs) (y ∷ ys) p q h =
        let head : x ≡ y = heads (or-e (eq x y) (has eq x ys) (sym (h x) ∙ or_l (eq x x) (has eq x xs) (O.eq-same x)))
        (or-e (eq y x) (has eq y xs) (h y ∙ or_l (eq y y) (has eq y ys) (O.eq-same y))) in
        λ i. head i ∷ ascending-ext xs ys p.1 q.1
        (λ z. has-tail x xs p z ∙ ap (λ (t : Bool). t && not (eq z x)) (h z) ∙ ap (λ (w : X). has eq z (y ∷ ys) && not (eq z w)) head ∙ sym (has-tail y ys q z)) i
      where
        heads : (eq x y ≡ true) ⊎ (has eq x ys ≡ true) → (eq y x ≡ true) ⊎ (has eq y xs ≡ true) → x ≡ y
        heads (inl e) d = O.same-eq x y e
        heads (inr e) (inl d) = sym (O.same-eq y x d)
        heads (inr e) (inr d) = both (lt x x) (O.trans x y x (p.0 y d) (q.0 x e)) (O.irrefl x)

    pub ascending-put : (x : X) (l : List X) → Ascending eq lt l → Ascending eq lt (put eq lt x l)
    ascending-put x [] p = ((λ y e. both false e refl), tt)
    ascending-put x (y ∷ ys) p = go (eq x y) (lt x y) refl refl (ascending-put x ys p.1)
      where
        go : (b c : Bool) → eq x y ≡ b → lt x y ≡ c → Ascending eq lt (put eq lt x ys) → Ascending eq lt (pick b (y ∷ ys) (pick c (x ∷ y ∷ ys) (y ∷ put eq lt x ys)))
        go true c e d ih = p
        go false true e d ih = ((λ z m. above z (or-e (eq z y) (has eq z ys) m)), p)
          where
            above : (z : X) → (eq z y ≡ true) ⊎ (has eq z ys ≡ true) → lt x z ≡ true
            above z (inl m) = rw (O.same-eq z y m) d
            above z (inr m) = O.trans x y z d (p.0 z m)
        go false false e d ih = ((λ z m. above z (or-e (eq z x) (has eq z ys) (sym (has-put z x ys) ∙ m))), ih)
          where
            above : (z : X) → (eq z x ≡ true) ⊎ (has eq z ys ≡ true) → lt y z ≡ true
            above z (inl m) = rw (O.same-eq z x m) (O.tri x y d e)
            above z (inr m) = p.0 z m

    pub has-puts : (z : X) (ks l : List X) → has eq z (puts eq lt ks l) ≡ (has eq z ks || has eq z l)
    has-puts z [] l = refl
    has-puts z (k ∷ ks) l = has-put z k (puts eq lt ks l) ∙ ap (λ (t : Bool). eq z k || t) (has-puts z ks l) ∙ sym (or_assoc (eq z k) (has eq z ks) (has eq z l))

    pub ascending-puts : (ks l : List X) → Ascending eq lt l → Ascending eq lt (puts eq lt ks l)
    ascending-puts [] l p = p
    ascending-puts (k ∷ ks) l p = ascending-put k (puts eq lt ks l) (ascending-puts ks l p)

    pub ascending-keep : (f : X → Bool) (l : List X) → Ascending eq lt l → Ascending eq lt (keep f l)
    ascending-keep f [] p = tt
    ascending-keep f (y ∷ ys) p = go (f y) (ascending-keep f ys p.1)
      where
        go : (b : Bool) → Ascending eq lt (keep f ys) → Ascending eq lt (pick b (y ∷ keep f ys) (keep f ys))
        go true ih = ((λ z m. p.0 z (and_l (has eq z ys) (f z) (sym (has-keep f z ys) ∙ m))), ih)
        go false ih = ih

    -- the test says what the statement says
    pub ascends-all : (l : List X) → ascends lt l ≡ true → Ascending eq lt l
    ascends-all [] h = tt
    ascends-all (x ∷ []) h = ((λ y e. both false e refl), tt)
    ascends-all (x ∷ y ∷ ys) h =
        let rest : Ascending eq lt (y ∷ ys) = ascends-all (y ∷ ys) (and_r (lt x y) (ascends lt (y ∷ ys)) h) in
        let xy : lt x y ≡ true = and_l (lt x y) (ascends lt (y ∷ ys)) h in
        ((λ z m. go rest xy z (or-e (eq z y) (has eq z ys) m)), rest)
      where
        go : Ascending eq lt (y ∷ ys) → lt x y ≡ true → (z : X) → (eq z y ≡ true) ⊎ (has eq z ys ≡ true) → lt x z ≡ true
        go r xy z (inl e) = rw (O.same-eq z y e) xy
        go r xy z (inr m) = O.trans x y z xy (r.0 z m)
