-- The first line of what is left of a text.
-- Assumes nothing.
use mathlib.Core.Path.{◌≡◌, refl, sym, ap, ◌∙◌}
use mathlib.Core.Bool.{Bool, true, false}
use Prim.Native.Nat.{ℕ, suc, ◌+◌, ◌-◌, ◌<◌, ◌≤◌}
use native.Mathlib.Omega.{arith}
use native.Mathlib.Numerals.{add-one}
use mathlib.Core.List.{List, [], ◌∷◌, ◌++◌, append-nil}
use lib.Dec.{eqb, ltb}
use lib.ListN.{length, get_or, take, drop, drop_of_length-le}
use lib.Seq.{slice, drop-cons, take_at, length-slice}
use borrow.Author.Tests.{ltb-true, ltb-false, eqb-true, not-true, not-false}
use Rattle.net.specs.Tests.{pick, all}
use Rattle.net.proofs.Tests.{and_l, and_r, and_i}
use Rattle.lexing.specs.Tokens.{in_line, front, past, lines_of}
use Rattle.lexing.specs.Found.{Reaches}
use Rattle.lexing.specs.declared.Class.TheVariants.{InLine}
use Rattle.lexing.proofs.Scans.{front-slice, slice-rest}
use Rattle.lexing.proofs.Back.{first-line}

front-all : (f : ℕ → Bool) (l : List ℕ) → all f (front f l) ≡ true
front-all f [] = refl
front-all f (c ∷ l) = go (f c) refl (front-all f l)
  where
    go : (b : Bool) → f c ≡ b → all f (front f l) ≡ true → all f (pick b (c ∷ front f l) []) ≡ true
    go true e ih = and_i (f c) (all f (front f l)) e ih
    go false e ih = refl

past-fails : (f : ℕ → Bool) (l : List ℕ) (c : ℕ) (r : List ℕ) → past f l ≡ c ∷ r → f c ≡ false
past-fails f [] c r e = absurd (let z : 0 ≡ suc (length r) = ap length e in let f : ⊥ = omega arith in f)
past-fails f (x ∷ l) c r e = go (f x) refl (λ d. past-fails f l c r d) e
  where
    go : (b : Bool) → f x ≡ b → (past f l ≡ c ∷ r → f c ≡ false) → pick b (past f l) (x ∷ l) ≡ c ∷ r → f c ≡ false
    go true d ih q = ih q
    go false d ih q = let h : x ≡ c = cc in rw (← h) d

-- a text with no newline is one line
only-line : (w : List ℕ) → all in_line w ≡ true → lines_of w ≡ w ∷ []
unfolding lines_of
only-line [] p = refl
only-line (c ∷ w) p = rw (not-true (eqb c 10) (and_l (in_line c) (all in_line w) p), only-line w (and_r (in_line c) (all in_line w) p))

module _ (s : List ℕ) (a b : ℕ) (r : Reaches s a InLine b) where
  in-line : all in_line (slice a b s) ≡ true
  in-line = rw (front-slice s a InLine b r) (front-all in_line (drop a s))

  pub line-here : b < length s → lines_of (drop a s) ≡ slice a b s ∷ lines_of (drop (b + 1) s)
  line-here h =
      let e : drop b s ≡ get_or s b 0 ∷ drop (suc b) s = drop-cons s b 0 h in
      let n : get_or s b 0 ≡ 10 = eqb-true (get_or s b 0) 10 (not-false _ (past-fails in_line (drop a s) (get_or s b 0) (drop (suc b) s) (sym r.rest ∙ e))) in
      ap lines_of (slice-rest s a b r.from r.to ∙ ap (λ (l : List ℕ). slice a b s ++ l) (e ∙ ap (λ (c : ℕ). c ∷ drop (suc b) s) n))
      ∙ first-line (slice a b s) (drop (suc b) s) in-line ∙ rw (add-one b)

  pub line-last : length s ≤ b → lines_of (drop a s) ≡ slice a b s ∷ []
  line-last h =
      ap lines_of (slice-rest s a b r.from r.to ∙ ap (λ (l : List ℕ). slice a b s ++ l) (drop_of_length-le s h) ∙ append-nil (slice a b s))
      ∙ only-line (slice a b s) in-line

pub line-none : (s : List ℕ) (a : ℕ) → length s ≤ a → lines_of (drop a s) ≡ [] ∷ []
line-none s a h = ap lines_of (drop_of_length-le s h) ∙ only-line [] refl

-- the first line, and lines that follow it
pub line-some : (s : List ℕ) (a b : ℕ) → Reaches s a InLine b → (xs : List (List ℕ)) × (lines_of (drop a s) ≡ slice a b s ∷ xs)
line-some s a b r = go (ltb b (length s)) refl
  where
    go : (c : Bool) → ltb b (length s) ≡ c → (xs : List (List ℕ)) × (lines_of (drop a s) ≡ slice a b s ∷ xs)
    go true e = (lines_of (drop (b + 1) s), line-here s a b r (ltb-true b (length s) e))
    go false e = ([], line-last s a b r (ltb-false b (length s) e))

pub slice-take : (s : List ℕ) (a b : ℕ) → a ≤ b → b ≤ length s → slice a b s ≡ take (b - a) (drop a s)
slice-take s a b h k = sym (take_at (slice a b s) (drop b s) (b - a) (length-slice a b s k)) ∙ ap (take (b - a)) (sym (slice-rest s a b h k))
