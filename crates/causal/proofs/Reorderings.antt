-- What a reordering is, and what swapping independent neighbours gives, are one: proved both ways.
-- Assumes nothing.
use mathlib.Core.Path.{◌≡◌, refl, sym, ◌∙◌, ap}
use mathlib.Core.Logic.{◌⊎◌, inl, inr, ◌≢◌}
use mathlib.Core.Bool.{Bool, true}
use mathlib.Core.List.{List, [], ◌∷◌, ◌++◌}
use Prim.Native.Nat.{suc}
use lib.ListN.{length}
use Rattle.causal.specs.Lists.{Mem, Before}
use Rattle.causal.specs.Reorderings.{Line, DistinctKeys, Independent, Dependent, Reordering, Swapped, stay, swap, under, chain}
use Rattle.causal.proofs.Tests.{test, both}
use Rattle.causal.proofs.Lists.{mem-skip, mem-unskip, mem-split, before-mem, before-mem', before-mid, before-skip, distinct-skip, distinct-mid}

module _ {M P : Type 0} (has : M → P → Bool) where
  pub independent-sym : {m n : M} → Independent has m n → Independent has n m
  independent-sym {m} {n} h p q = test (has m p) (λ e. both (has n p) q (h p e)) (λ e. e)

  pub not-dependent : (m n : M) → (Dependent has m n → ⊥) → Independent has m n
  not-dependent m n h p q = test (has n p) (λ e. absurd (h (p, q, e))) (λ e. e)

module _ {A K M P : Type 0} (has : M → P → Bool) where
  -- a line goes to the front past lines that moved nothing of it
  pub float : (m : Line A K M) (xs ys : List (Line A K M)) → ((x : Line A K M) → Mem x xs → Independent has x.moved m.moved) → Swapped has (xs ++ m ∷ ys) (m ∷ xs ++ ys)
  float m [] ys h = stay
  float m (x ∷ xs) ys h = chain (under (float m xs ys (λ k q. h k (inr q)))) (swap (h x (inl refl)))

  module _ (m : Line A K M) (ms xs ys : List (Line A K M)) (d : DistinctKeys (xs ++ m ∷ ys)) (R : Reordering has (xs ++ m ∷ ys) (m ∷ ms)) where
    not-later : (l : Line A K M) → Mem l ms → l ≡ m → ⊥
    not-later l h e = R.once.0 l h (ap (λ (k : Line A K M). k.key) e)

    pub in-front : (x : Line A K M) → Mem x xs → Independent has x.moved m.moved
    in-front x h = not-dependent has x.moved m.moved (λ c. go (R.kept x m c (before-mid m xs ys x h)))
      where
        go : Before x m (m ∷ ms) → ⊥
        go (inl e) = not-later m e.1 refl
        go (inr b) = not-later m (before-mem' ms x m b) refl

    pub rest : Reordering has (xs ++ ys) ms
    rest = record {
      only = λ l h. only' l h (mem-unskip m xs ys l (R.only l (inr h)));
      every = λ l h. every' l h (R.every l (mem-skip m xs ys l h));
      once = R.once.1;
      kept = λ l k c b. kept' l k b (R.kept l k c (before-skip m xs ys l k b));
    }
      where
        only' : (l : Line A K M) → Mem l ms → (l ≡ m) ⊎ Mem l (xs ++ ys) → Mem l (xs ++ ys)
        only' l h (inl e) = absurd (not-later l h e)
        only' l h (inr k) = k

        other : (l : Line A K M) → Mem l (xs ++ ys) → l ≡ m → ⊥
        other l h e = distinct-mid (λ (k : Line A K M). k.key) m xs ys d l h (ap (λ (k : Line A K M). k.key) e)

        every' : (l : Line A K M) → Mem l (xs ++ ys) → Mem l (m ∷ ms) → Mem l ms
        every' l h (inl e) = absurd (other l h e)
        every' l h (inr k) = k

        kept' : (l k : Line A K M) → Before l k (xs ++ ys) → Before l k (m ∷ ms) → Before l k ms
        kept' l k h (inl e) = absurd (other l (before-mem (xs ++ ys) l k h) e.0)
        kept' l k h (inr b) = b

  -- Every reordering comes from swapping independent neighbours.
  pub reordering-swapped : (ms ls : List (Line A K M)) → DistinctKeys ls → Reordering has ls ms → Swapped has ls ms
  reordering-swapped [] [] d R = stay
  reordering-swapped [] (x ∷ xs) d R = absurd (R.every x (inl refl))
  reordering-swapped (m ∷ ms) ls d R =
      let (xs, ys, e) = mem-split m ls (R.only m (inl refl)) in
      let d' : DistinctKeys (xs ++ m ∷ ys) = rw e at d in
      let R' : Reordering has (xs ++ m ∷ ys) (m ∷ ms) = rw e at R in
      rw e (chain (float m xs ys (in-front m ms xs ys d' R'))
      (under (reordering-swapped ms (xs ++ ys) (distinct-skip (λ (k : Line A K M). k.key) m xs ys d') (rest m ms xs ys d' R'))))

  pub swapped-length : {ls ms : List (Line A K M)} → Swapped has ls ms → length ls ≡ length ms
  swapped-length stay = refl
  swapped-length (swap h) = refl
  swapped-length (under t) = ap suc (swapped-length t)
  swapped-length (chain t u) = swapped-length t ∙ swapped-length u

  -- The lines as they stand are a reordering of themselves.
  pub reordering-same : (ls : List (Line A K M)) → DistinctKeys ls → Reordering has ls ls
  reordering-same ls d = record { only = λ l h. h; every = λ l h. h; once = d; kept = λ l k c b. b }

  pub swapped-sym : {ls ms : List (Line A K M)} → Swapped has ls ms → Swapped has ms ls
  swapped-sym stay = stay
  swapped-sym (swap h) = swap (independent-sym has h)
  swapped-sym (under t) = under (swapped-sym t)
  swapped-sym (chain t u) = chain (swapped-sym u) (swapped-sym t)

  pub swapped-mem : {ls ms : List (Line A K M)} → Swapped has ls ms → (x : Line A K M) → Mem x ls → Mem x ms
  swapped-mem stay x h = h
  swapped-mem (swap a) x (inl e) = inr (inl e)
  swapped-mem (swap a) x (inr (inl e)) = inl e
  swapped-mem (swap a) x (inr (inr h)) = inr (inr h)
  swapped-mem (under t) x (inl e) = inl e
  swapped-mem (under t) x (inr h) = inr (swapped-mem t x h)
  swapped-mem (chain t u) x h = swapped-mem u x (swapped-mem t x h)

  pub swapped-distinct : {ls ms : List (Line A K M)} → Swapped has ls ms → DistinctKeys ls → DistinctKeys ms
  swapped-distinct stay d = d
  swapped-distinct (swap {l = l} {k = k} {ls = ls} a) d = (go, ((λ x h. d.0 x (inr h)), d.1.1))
    where
      go : (x : Line A K M) → (x ≡ l) ⊎ Mem x ls → x.key ≢ k.key
      go x (inl e) = λ q. d.0 k (inl refl) (sym q ∙ ap (λ (y : Line A K M). y.key) e)
      go x (inr h) = d.1.0 x h
  swapped-distinct (under t) d = ((λ x h. d.0 x (swapped-mem (swapped-sym t) x h)), swapped-distinct t d.1)
  swapped-distinct (chain t u) d = swapped-distinct u (swapped-distinct t d)

  swapped-kept : {ls ms : List (Line A K M)} → Swapped has ls ms → (x y : Line A K M) → Dependent has x.moved y.moved → Before x y ls → Before x y ms
  swapped-kept stay x y c b = b
  swapped-kept (swap {l = l} {k = k} {ls = ls} a) x y c (inl (e, inl d)) = absurd (go c.0 c.1 c.2)
    where
      go : (p : P) → has x.moved p ≡ true → has y.moved p ≡ true → ⊥
      go p u v = both (has k.moved p) (rw d at v) (a p (rw e at u))
  swapped-kept (swap a) x y c (inl (e, inr h)) = inr (inl (e, h))
  swapped-kept (swap a) x y c (inr (inl (e, h))) = inl (e, inr h)
  swapped-kept (swap a) x y c (inr (inr b)) = inr (inr b)
  swapped-kept (under t) x y c (inl (e, h)) = inl (e, swapped-mem t y h)
  swapped-kept (under t) x y c (inr b) = inr (swapped-kept t x y c b)
  swapped-kept (chain t u) x y c b = swapped-kept u x y c (swapped-kept t x y c b)

  -- Swapping independent neighbours gives a reordering.
  pub swapped-reordering : {ls ms : List (Line A K M)} → Swapped has ls ms → DistinctKeys ls → Reordering has ls ms
  swapped-reordering t d = record { only = swapped-mem (swapped-sym t); every = swapped-mem t; once = swapped-distinct t d; kept = swapped-kept t }
