-- The lines that are left where one goes and those that depend on it: some of the lines there were, in their order (02, T-08).
-- Assumes nothing.
use mathlib.Core.Logic.{inl, inr}
use mathlib.Core.Bool.{Bool}
use mathlib.Core.List.{List, [], ◌∷◌, ◌++◌}
use Prim.Native.Nat.{suc, ◌≤◌}
use native.Mathlib.Omega.{arith}
use lib.ListN.{length}
use Rattle.causal.specs.Lists.{Mem}
use Rattle.net.specs.Journal.{LiveLine, common}
use Rattle.net.proofs.Tests.{pick-case}
use Rattle.net.proofs.Keys.{Up}
use Rattle.words.specs.Sets.{either}
use Rattle.spread.specs.Depends.{others}
use Rattle.net.specs.Journal.{highest_live}

pub others-mem : (ls : List LiveLine) (m : List Bool) (x : LiveLine) → Mem x (others m ls) → Mem x ls
others-mem [] m x h = h
others-mem (l ∷ ls) m x h = pick-case (λ (y : List LiveLine). Mem x y → Mem x (l ∷ ls)) (common m l.moved) (others (either m l.moved) ls) (l ∷ others m ls)
    (λ _ n. inr (others-mem ls (either m l.moved) x n)) (λ _ n. one n (others-mem ls m x)) h
  where
    one : Mem x (l ∷ others m ls) → (Mem x (others m ls) → Mem x ls) → Mem x (l ∷ ls)
    one (inl e) f = inl e
    one (inr n) f = inr (f n)

others-up : (ls : List LiveLine) (m : List Bool) → Up ls → Up (others m ls)
others-up [] m u = u
others-up (l ∷ ls) m u = pick-case Up (common m l.moved) (others (either m l.moved) ls) (l ∷ others m ls)
    (λ _. others-up ls (either m l.moved) u.1) (λ _. ((λ j h. u.0 j (others-mem ls m j h)), others-up ls m u.1))

others-length : (ls : List LiveLine) (m : List Bool) → length (others m ls) ≤ length ls
others-length [] m = omega arith
others-length (l ∷ ls) m = pick-case (λ (y : List LiveLine). length y ≤ suc (length ls)) (common m l.moved) (others (either m l.moved) ls) (l ∷ others m ls)
    (λ _. let a = others-length ls (either m l.moved) in omega arith) (λ _. let a = others-length ls m in omega arith)

others-highest : (ls : List LiveLine) (m : List Bool) → (highest_live (others m ls)).0 ≤ (highest_live ls).0
others-highest [] m = omega arith
others-highest (l ∷ ls) m = pick-case (λ (y : List LiveLine). (highest_live y).0 ≤ (highest_live (l ∷ ls)).0) (common m l.moved) (others (either m l.moved) ls) (l ∷ others m ls)
    (λ _. let a = others-highest ls (either m l.moved) in omega arith) (λ _. let a = others-highest ls m in omega arith)

module _ (l : LiveLine) (ys : List LiveLine) (m : List Bool) where
  pub rest-mem : (xs : List LiveLine) (x : LiveLine) → Mem x (xs ++ others m ys) → Mem x (xs ++ l ∷ ys)
  rest-mem [] x h = inr (others-mem ys m x h)
  rest-mem (y ∷ xs) x (inl e) = inl e
  rest-mem (y ∷ xs) x (inr h) = inr (rest-mem xs x h)

  pub rest_up : (xs : List LiveLine) → Up (xs ++ l ∷ ys) → Up (xs ++ others m ys)
  rest_up [] u = others-up ys m u.1
  rest_up (x ∷ xs) u = ((λ j h. u.0 j (rest-mem xs j h)), rest_up xs u.1)

  pub rest-length : (xs : List LiveLine) → length (xs ++ others m ys) ≤ length (xs ++ l ∷ ys)
  rest-length [] = let a = others-length ys m in omega arith
  rest-length (x ∷ xs) = let a = rest-length xs in omega arith

  pub rest-highest : (xs : List LiveLine) → (highest_live (xs ++ others m ys)).0 ≤ (highest_live (xs ++ l ∷ ys)).0
  rest-highest [] = let a = others-highest ys m in omega arith
  rest-highest (x ∷ xs) = let a = rest-highest xs in omega arith
