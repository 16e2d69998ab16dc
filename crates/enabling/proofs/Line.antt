-- Bonds that are met in one pass (specs/Line): they are among the others; and what one turn of the pass does.
-- Assumes nothing.
use mathlib.Core.Path.{◌≡◌, refl, sym, ◌∙◌, ap}
use mathlib.Core.Logic.{◌⊎◌, inl, inr}
use mathlib.Core.Bool.{Bool, true, false, ◌&&◌}
use mathlib.Core.List.{List, [], ◌∷◌}
use Prim.Native.Nat.{ℕ, ◌+◌, ◌-◌, ◌<◌, ◌≤◌}
use native.Mathlib.Omega.{arith}
use lib.Dec.{eqb, ltb}
use lib.ListN.{length, drop, drop_of_length-le}
use borrow.Author.Tests.{eq-eqb, ne_eqb, ltb-true, ltb-false}
use Rattle.causal.proofs.Tests.{both, test}
use Rattle.net.specs.Tests.{pick, all, table}
use Rattle.net.specs.Net.{same_bond, has_bond}
use Rattle.net.specs.declared.Bond.{Bond}
use Rattle.net.proofs.Tests.{and_i, or_l, or_r, all-e, all-i}
use Rattle.net.proofs.Tables.{length-table}
use Rattle.bonds.proofs.Fill.{drop-back}
use Rattle.enabling.specs.Line.{in_line}

-- one more to be met among
more : (bs cs : List Bond) (c : Bond) → all (λ (b : Bond). has_bond b cs) bs ≡ true → all (λ (b : Bond). has_bond b (c ∷ cs)) bs ≡ true
more bs cs c h = all-i (λ (b : Bond). has_bond b (c ∷ cs)) bs (λ b m. or_r (same_bond b c) (has_bond b cs) (all-e (λ (x : Bond). has_bond x cs) bs h b m))

pub line-all : (bs cs : List Bond) → in_line bs cs ≡ true → all (λ (b : Bond). has_bond b cs) bs ≡ true
line-all [] cs h = refl
line-all (b ∷ bs) [] h = both false h refl
line-all (b ∷ bs) (c ∷ cs) h = go (same_bond b c) refl (line-all bs cs) (line-all (b ∷ bs) cs)
  where
    go : (x : Bool) → same_bond b c ≡ x → (in_line bs cs ≡ true → all (λ (d : Bond). has_bond d cs) bs ≡ true)
        → (in_line (b ∷ bs) cs ≡ true → all (λ (d : Bond). has_bond d cs) (b ∷ bs) ≡ true) → all (λ (d : Bond). has_bond d (c ∷ cs)) (b ∷ bs) ≡ true
    go true e met _ = and_i (has_bond b (c ∷ cs)) (all (λ (d : Bond). has_bond d (c ∷ cs)) bs) (or_l (same_bond b c) (has_bond b cs) e)
        (more bs cs c (met (sym (ap (λ (x : Bool). pick x (in_line bs cs) (in_line (b ∷ bs) cs)) e) ∙ h)))
    go false e _ later = more (b ∷ bs) cs c (later (sym (ap (λ (x : Bool). pick x (in_line bs cs) (in_line (b ∷ bs) cs)) e) ∙ h))

next : (k : ℕ) (f : ℕ → Bond) (a : ℕ) → a < k → drop a (table k f) ≡ f a ∷ drop (a + 1) (table k f)
next k f a h = let e : a ≡ a + 1 - 1 = omega arith in ap (λ (j : ℕ). drop j (table k f)) e ∙ drop-back k (a + 1) f (omega arith) (omega arith) ∙ ap (λ (j : ℕ). f j ∷ drop (a + 1) (table k f)) (sym e)

none : (k : ℕ) (f : ℕ → Bond) → drop k (table k f) ≡ []
none k f = let s : length (table k f) ≤ k = rw (length-table k f) (omega arith) in drop_of_length-le (table k f) s

module _ (k n : ℕ) (f g : ℕ → Bond) where
  -- those from the place a on, to be met among those from the place i on
  abbrev pub onward : ℕ → ℕ → Bool
  onward a i = in_line (drop a (table k f)) (drop i (table n g))

  pub line-more : (a i : ℕ) → a < k → i < n → onward a i ≡ onward (pick (same_bond (f a) (g i)) (a + 1) a) (i + 1)
  line-more a i u v = (λ j. in_line (next k f a u j) (next n g i v j)) ∙ go (same_bond (f a) (g i))
    where
      go : (x : Bool) → pick x (onward (a + 1) (i + 1)) (in_line (f a ∷ drop (a + 1) (table k f)) (drop (i + 1) (table n g))) ≡ onward (pick x (a + 1) a) (i + 1)
      go true = refl
      go false = ap (λ (bs : List Bond). in_line bs (drop (i + 1) (table n g))) (sym (next k f a u))

  -- the pass ends where all are met, or where there is none left to be met among
  at-end : (a i : ℕ) → (a ≡ k) ⊎ ((a < k) × (i ≡ n)) → eqb a k ≡ onward a i
  at-end a i (inl e) = eq-eqb a k e ∙ sym (ap (λ (j : ℕ). onward j i) e ∙ ap (λ (bs : List Bond). in_line bs (drop i (table n g))) (none k f))
  at-end a i (inr (h, e)) = ne_eqb a k (λ q. omega arith) ∙ sym (ap (onward a) e ∙ (λ j. in_line (next k f a h j) (none n g j)))

  pub line-end : (a i : ℕ) → a ≤ k → i ≤ n → (ltb a k && ltb i n) ≡ false → eqb a k ≡ onward a i
  line-end a i u v h = test (ltb a k)
      (λ e. at-end a i (inr (ltb-true a k e, let w = ltb-false i n (sym (ap (λ (x : Bool). x && ltb i n) e) ∙ h) in omega arith)))
      (λ e. at-end a i (inl (let w = ltb-false a k e in omega arith)))
