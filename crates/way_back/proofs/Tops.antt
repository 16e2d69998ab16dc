-- The top above the last line that moved a base, by any relation dep: nothing depends on it, and each set closed by dep that has that
-- line has it. Assumes nothing.
use mathlib.Core.Path.{◌≡◌, refl, ◌∙◌}
use mathlib.Core.Logic.{◌⊎◌, inl, inr}
use mathlib.Core.Bool.{Bool, true, false}
use mathlib.Core.List.{List, [], ◌∷◌}
use Prim.Native.Nat.{ℕ, ◌<◌}
use native.Mathlib.Omega.{arith}
use Rattle.causal.specs.Lists.{Mem}
use Rattle.causal.proofs.Tests.{test, both}
use Rattle.net.specs.Tests.{pick}
use Rattle.net.specs.Firing.{in_set}
use Rattle.net.specs.Journal.{LiveLine}
use Rattle.net.specs.declared.Key.{Key}
use Rattle.net.proofs.Tests.{or-e, any-no}
use Rattle.net.proofs.Keys.{Up, key_of}
use Rattle.movers.specs.Tops.{moved_in, top_of, top_at}
use Rattle.way_back.specs.Ways.{ClosedBy}

module _ (dep : LiveLine → LiveLine → Bool) where
  -- ---- the top above a line

  -- t is in ls, nothing in ls depends on it, and a set closed by dep that has l has t
  pub record Top (l t : LiveLine) (ls : List LiveLine) : Type 0 where
    pub there : Mem t ls
    pub free : (k : LiveLine) → Mem k ls → t.key.0 < k.key.0 → dep t k ≡ false
    pub above : (f : Key → Bool) → ClosedBy dep ls f → f l.key ≡ true → f t.key ≡ true

  closed-tail : (x : LiveLine) (ls : List LiveLine) (f : Key → Bool) → ClosedBy dep (x ∷ ls) f → ClosedBy dep ls f
  closed-tail x ls f c l k m n = c l k (inr m) (inr n)

  -- the top of the later lines is the top of all
  past : (x l t : LiveLine) (ls : List LiveLine) → Up (x ∷ ls) → Top l t ls → Top l t (x ∷ ls)
  past x l t ls u T = record {
    there = inr T.there;
    free = λ k m h. free' k m h;
    above = λ f c e. T.above f (closed-tail x ls f c) e;
  }
    where
      free' : (k : LiveLine) → Mem k (x ∷ ls) → t.key.0 < k.key.0 → dep t k ≡ false
      free' k (inl q) h = let a = key_of q in let b = u.0 t T.there in absurd (let z : ⊥ = omega arith in z)
      free' k (inr m) h = T.free k m h

  -- a top of k is one of l, where k depends on l
  from : (l k t : LiveLine) (ls : List LiveLine) → Mem l ls → Mem k ls → l.key.0 < k.key.0 → dep l k ≡ true → Top k t ls → Top l t ls
  from l k t ls m n h e T = record { there = T.there; free = T.free; above = λ f c d. T.above f c (c l k m n h e d) }

  -- a line that does not depend on l goes in behind it
  beside : (l k t : LiveLine) (ks : List LiveLine) → Up (k ∷ ks) → dep l k ≡ false → Top l t (l ∷ ks) → Top l t (l ∷ k ∷ ks)
  beside l k t ks u e T = record {
    there = more t T.there;
    free = λ x m h. free' x m h T.there;
    above = λ f c d. T.above f (λ a b m n. c a b (more a m) (more b n)) d;
  }
    where
      more : (x : LiveLine) → Mem x (l ∷ ks) → Mem x (l ∷ k ∷ ks)
      more x (inl q) = inl q
      more x (inr m) = inr (inr m)

      free' : (x : LiveLine) → Mem x (l ∷ k ∷ ks) → t.key.0 < x.key.0 → Mem t (l ∷ ks) → dep t x ≡ false
      free' x (inl q) h n = T.free x (inl q) h
      free' x (inr (inl q)) h (inl n) = (λ i. dep (n i) (q i)) ∙ e
      free' x (inr (inl q)) h (inr n) = let a = key_of q in let b = u.0 t n in absurd (let z : ⊥ = omega arith in z)
      free' x (inr (inr m)) h n = T.free x (inr m) h

  top-of : (l : LiveLine) (ks : List LiveLine) → Up (l ∷ ks) → Top l (top_of dep l ks) (l ∷ ks)
  top-of l [] u = record { there = inl refl; free = λ k m h. none k m h; above = λ f c e. e }
    where
      none : (k : LiveLine) → (k ≡ l) ⊎ ⊥ → l.key.0 < k.key.0 → dep l k ≡ false
      none k (inl e) h = let a = key_of e in absurd (let z : ⊥ = omega arith in z)
      none k (inr m) h = absurd m
  top-of l (k ∷ ks) u = go (dep l k) refl (top-of k ks u.1) (top-of l ks ((λ x m. u.0 x (inr m)), u.1.1))
    where
      go : (b : Bool) → dep l k ≡ b → Top k (top_of dep k ks) (k ∷ ks) → Top l (top_of dep l ks) (l ∷ ks) → Top l (top_of dep (pick b k l) ks) (l ∷ k ∷ ks)
      go true e T L = from l k (top_of dep k ks) (l ∷ k ∷ ks) (inl refl) (inr (inl refl)) (u.0 k (inl refl)) e (past l k (top_of dep k ks) (k ∷ ks) u T)
      go false e K T = beside l k (top_of dep l ks) ks u.1 e T

  -- ---- from the last line that moved p

  pub record LastTop (p : ℕ) (ls : List LiveLine) : Type 0 where
    pub line : LiveLine
    pub there : Mem line ls
    pub moves : in_set line.moved p ≡ true
    pub last : (k : LiveLine) → Mem k ls → line.key.0 < k.key.0 → in_set k.moved p ≡ false
    pub top : Top line (top_at dep p ls) ls

  pub top-at : (p : ℕ) (ls : List LiveLine) → Up ls → moved_in p ls ≡ true → LastTop p ls
  top-at p [] u h = both false h refl
  top-at p (x ∷ ls) u h = test (moved_in p ls) (λ e. later e (top-at p ls u.1 e)) (λ e. now e (or-e (in_set x.moved p) (moved_in p ls) h))
    where
      later : moved_in p ls ≡ true → LastTop p ls → LastTop p (x ∷ ls)
      later e T = record {
        line = T.line;
        there = inr T.there;
        moves = T.moves;
        last = λ k m d. last' k m d;
        top = rw e (past x T.line (top_at dep p ls) ls u T.top);
      }
        where
          last' : (k : LiveLine) → Mem k (x ∷ ls) → T.line.key.0 < k.key.0 → in_set k.moved p ≡ false
          last' k (inl q) d = let a = key_of q in let b = u.0 T.line T.there in absurd (let z : ⊥ = omega arith in z)
          last' k (inr m) d = T.last k m d

      now : moved_in p ls ≡ false → (in_set x.moved p ≡ true) ⊎ (moved_in p ls ≡ true) → LastTop p (x ∷ ls)
      now e (inr d) = both (moved_in p ls) d e
      now e (inl d) = record { line = x; there = inl refl; moves = d; last = λ k m h. last' k m h; top = rw e (top-of x ls u) }
        where
          last' : (k : LiveLine) → Mem k (x ∷ ls) → x.key.0 < k.key.0 → in_set k.moved p ≡ false
          last' k (inl q) h = let a = key_of q in absurd (let z : ⊥ = omega arith in z)
          last' k (inr m) h = any-no (λ (l : LiveLine). in_set l.moved p) ls e k m
