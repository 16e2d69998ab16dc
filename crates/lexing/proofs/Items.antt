-- The next of a text that begins with a printed item.
-- Assumes nothing.
use mathlib.Core.Path.{◌≡◌, refl, ◌∙◌}
use mathlib.Core.Bool.{Bool, true, false}
use Prim.Native.Nat.{ℕ, suc, ◌+◌, ◌/◌, ◌%◌, ◌<◌, ◌≤◌}
use native.Mathlib.Omega.{arith}
use mathlib.Core.List.{List, [], ◌∷◌, ◌++◌}
use lib.Dec.{ltb, leb}
use lib.ListN.{length, length-append}
use borrow.Author.Tests.{ne_eqb, lt-leb, ltb-true, leb-true}
use Rattle.net.specs.Tests.{all}
use Rattle.net.proofs.Tests.{and_l, and_r, and_i}
use Rattle.text.specs.Decimal.{digits, decimal}
use Rattle.lexing.specs.Tokens.{Token, word, number, line, end, wrong, letter, digit, front, past, value, too_much, next', next_of, closes, in_line, ends}
use Rattle.lexing.specs.Printed.{item_text, plain}
use Rattle.lexing.proofs.Fronts.{front-stop, past_stop, ends-letter, ends-digit, decimal-value, decimal-digits}

-- false is not true
pub never : {X : Type 0} → false ≡ true → X
never e = absurd (let z : ◌≡◌ {A = ℕ} 0 1 = cc in let f : ⊥ = omega arith in f)

module _ (c : ℕ) (w r : List ℕ) where
  word_next : all letter (c ∷ w) ≡ true → ends r ≡ true → next_of ((c ∷ w) ++ r) ≡ next' (word (c ∷ w)) r
  unfolding next_of
  word_next p q =
      let l : letter c ≡ true = and_l (letter c) (all letter w) p in
      let k : 97 ≤ c = leb-true 97 c (and_l (leb 97 c) (leb c 122) l) in
      rw (lt-leb c 32 (omega arith), l, by_front, by-past, q)
    where
      by_front : front letter (w ++ r) ≡ w
      by_front = front-stop letter w r (and_r (letter c) (all letter w) p) (ends-letter r q)

      by-past : past letter (w ++ r) ≡ r
      by-past = past_stop letter w r (and_r (letter c) (all letter w) p) (ends-letter r q)

  number-next : all digit (c ∷ w) ≡ true → ends r ≡ true → next_of ((c ∷ w) ++ r) ≡ next' (number (value (c ∷ w))) r
  unfolding next_of
  number-next p q =
      let l : digit c ≡ true = and_l (digit c) (all digit w) p in
      let k : 48 ≤ c = leb-true 48 c (and_l (leb 48 c) (leb c 57) l) in
      let m : c ≤ 57 = leb-true c 57 (and_r (leb 48 c) (leb c 57) l) in
      rw (lt-leb c 32 (omega arith), lt-leb 97 c (omega arith), l, by_front, by-past, q)
    where
      by_front : front digit (w ++ r) ≡ w
      by_front = front-stop digit w r (and_r (digit c) (all digit w) p) (ends-digit r q)

      by-past : past digit (w ++ r) ≡ r
      by-past = past_stop digit w r (and_r (digit c) (all digit w) p) (ends-digit r q)

digits-some : (k n : ℕ) (b : Bool) → ltb n 10 ≡ b → 0 < length (digits (suc k) n)
digits-some k n true e = rw e (omega arith)
digits-some k n false e = rw e (omega (arith, length-append (digits k (n / 10)) ((48 + n % 10) ∷ [])))

decimal-some : (n : ℕ) → 0 < length (decimal n)
unfolding decimal
decimal-some n = digits-some 9 n (ltb n 10) refl

numbers-next : (ds r : List ℕ) → 0 < length ds → all digit ds ≡ true → ends r ≡ true → next_of (ds ++ r) ≡ next' (number (value ds)) r
numbers-next [] r l p q = absurd (let z : ⊥ = omega arith in z)
numbers-next (d ∷ ds) r l p q = number-next d ds r p q

pub item-next : (t : Token) (r : List ℕ) → plain t ≡ true → ends r ≡ true → next_of (item_text t ++ r) ≡ next' t r
item-next (word []) r p q = never p
item-next (word (c ∷ w)) r p q = word_next c w r (and_r (ltb 0 (length (c ∷ w))) (all letter (c ∷ w)) p) q
item-next (number n) r p q = numbers-next (decimal n) r (decimal-some n) (decimal-digits n) q ∙ rw (decimal-value n (ltb-true n too_much p))
item-next line r p q = never p
item-next end r p q = never p
item-next wrong r p q = never p

pub blank-next : (s : List ℕ) → next_of (32 ∷ s) ≡ next_of s
unfolding next_of
blank-next s = refl

pub end-next : next_of [] ≡ next' end []
unfolding next_of
end-next = refl

pub plain_more : (t : Token) → plain t ≡ true → closes t ≡ false
plain_more (word w) p = refl
plain_more (number n) p = refl
plain_more line p = never p
plain_more end p = never p
plain_more wrong p = never p

-- a letter and a digit are no newline

all-on : (f g : ℕ → Bool) (w : List ℕ) → ((c : ℕ) → f c ≡ true → g c ≡ true) → all f w ≡ true → all g w ≡ true
all-on f g [] h p = refl
all-on f g (c ∷ w) h p = and_i (g c) (all g w) (h c (and_l (f c) (all f w) p)) (all-on f g w h (and_r (f c) (all f w) p))

letter-in : (c : ℕ) → letter c ≡ true → in_line c ≡ true
letter-in c h = let k : 97 ≤ c = leb-true 97 c (and_l (leb 97 c) (leb c 122) h) in rw (ne_eqb c 10 (λ e. omega arith))

digit-in : (c : ℕ) → digit c ≡ true → in_line c ≡ true
digit-in c h = let k : 48 ≤ c = leb-true 48 c (and_l (leb 48 c) (leb c 57) h) in rw (ne_eqb c 10 (λ e. omega arith))

pub item_in : (t : Token) → plain t ≡ true → all in_line (item_text t) ≡ true
item_in (word w) p = all-on letter in_line w letter-in (and_r (ltb 0 (length w)) (all letter w) p)
item_in (number n) p = all-on digit in_line (decimal n) digit-in (decimal-digits n)
item_in line p = never p
item_in end p = never p
item_in wrong p = never p
