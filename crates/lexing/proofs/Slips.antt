-- What is no item: a word and a number with no blank between them, a sign; and the hyphen that joins two numbers.
-- Assumes nothing.
use mathlib.Core.Path.{◌≡◌, refl}
use mathlib.Core.Bool.{true, false}
use Prim.Native.Nat.{ℕ, ◌≤◌}
use native.Mathlib.Omega.{arith}
use mathlib.Core.List.{List, ◌∷◌, ◌++◌}
use lib.Dec.{leb}
use borrow.Author.Tests.{ne_eqb, le-leb, lt-leb, leb-true}
use Rattle.net.specs.Tests.{all}
use Rattle.net.proofs.Tests.{and_l, and_r}
use Rattle.lexing.specs.Tokens.{number, wrong, letter, digit, value, next', next_of}
use Rattle.lexing.proofs.Fronts.{stops, front-stop, past_stop}

-- a sign is not read
pub sign-wrong : (r : List ℕ) → next_of (45 ∷ r) ≡ next' wrong r
unfolding next_of
sign-wrong r = refl

module _ (c : ℕ) (w : List ℕ) (d : ℕ) (r : List ℕ) where
  -- a word, and a digit directly behind it
  pub word-runs-on : all letter (c ∷ w) ≡ true → digit d ≡ true → next_of ((c ∷ w) ++ (d ∷ r)) ≡ next' wrong (d ∷ r)
  unfolding next_of
  word-runs-on p q =
      let l : letter c ≡ true = and_l (letter c) (all letter w) p in
      let k : 97 ≤ c = leb-true 97 c (and_l (leb 97 c) (leb c 122) l) in
      let a : 48 ≤ d = leb-true 48 d (and_l (leb 48 d) (leb d 57) q) in
      let b : d ≤ 57 = leb-true d 57 (and_r (leb 48 d) (leb d 57) q) in
      let e : stops letter (d ∷ r) ≡ true = rw (lt-leb 97 d (omega arith)) in
      rw (lt-leb c 32 (omega arith), l, past_stop letter w (d ∷ r) (and_r (letter c) (all letter w) p) e, lt-leb d 32 (omega arith), ne_eqb d 35 (λ f. omega arith))

  module _ (p : all digit (c ∷ w) ≡ true) where
    -- a number, and a letter directly behind it
    pub number-runs-on : letter d ≡ true → next_of ((c ∷ w) ++ (d ∷ r)) ≡ next' wrong (d ∷ r)
    unfolding next_of
    number-runs-on q =
        let l : digit c ≡ true = and_l (digit c) (all digit w) p in
        let k : 48 ≤ c = leb-true 48 c (and_l (leb 48 c) (leb c 57) l) in
        let m : c ≤ 57 = leb-true c 57 (and_r (leb 48 c) (leb c 57) l) in
        let a : 97 ≤ d = leb-true 97 d (and_l (leb 97 d) (leb d 122) q) in
        let e : stops digit (d ∷ r) ≡ true = rw (le-leb 48 d (omega arith), lt-leb d 57 (omega arith)) in
        rw (lt-leb c 32 (omega arith), lt-leb 97 c (omega arith), l, past_stop digit w (d ∷ r) (and_r (digit c) (all digit w) p) e, lt-leb d 32 (omega arith), ne_eqb d 35 (λ f. omega arith), ne_eqb d 45 (λ f. omega arith))

    -- a number, a hyphen and a digit: the hyphen is passed
    pub hyphen-joins : digit d ≡ true → next_of ((c ∷ w) ++ (45 ∷ (d ∷ r))) ≡ next' (number (value (c ∷ w))) (d ∷ r)
    unfolding next_of
    hyphen-joins q =
        let l : digit c ≡ true = and_l (digit c) (all digit w) p in
        let k : 48 ≤ c = leb-true 48 c (and_l (leb 48 c) (leb c 57) l) in
        let m : c ≤ 57 = leb-true c 57 (and_r (leb 48 c) (leb c 57) l) in
        let t : all digit w ≡ true = and_r (digit c) (all digit w) p in
        rw (lt-leb c 32 (omega arith), lt-leb 97 c (omega arith), l, front-stop digit w (45 ∷ (d ∷ r)) t refl, past_stop digit w (45 ∷ (d ∷ r)) t refl, q)

    -- a number, a hyphen, and no digit behind it
    pub hyphen-wrong : digit d ≡ false → next_of ((c ∷ w) ++ (45 ∷ (d ∷ r))) ≡ next' wrong (45 ∷ (d ∷ r))
    unfolding next_of
    hyphen-wrong q =
        let l : digit c ≡ true = and_l (digit c) (all digit w) p in
        let k : 48 ≤ c = leb-true 48 c (and_l (leb 48 c) (leb c 57) l) in
        let m : c ≤ 57 = leb-true c 57 (and_r (leb 48 c) (leb c 57) l) in
        let t : all digit w ≡ true = and_r (digit c) (all digit w) p in
        rw (lt-leb c 32 (omega arith), lt-leb 97 c (omega arith), l, past_stop digit w (45 ∷ (d ∷ r)) t refl, q)
