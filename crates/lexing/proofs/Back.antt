-- Reading what was printed gives the lines back, and one empty line behind the last newline.
-- Assumes nothing.
use mathlib.Core.Path.{◌≡◌, refl, ap, ◌∙◌}
use mathlib.Core.Bool.{true}
use Prim.Native.Nat.{ℕ, zero, suc, ◌≤◌}
use native.Mathlib.Omega.{arith}
use mathlib.Core.List.{List, [], ◌∷◌, ◌++◌, map, append_assoc}
use lib.Dec.{leb, eqb}
use lib.ListN.{length}
use borrow.Author.Tests.{leb-true, not-true}
use Rattle.net.specs.Tests.{all}
use Rattle.net.proofs.Tests.{and_l, and_r, and_i, all_append}
use Rattle.lexing.specs.Tokens.{Token, ends, in_line, lines_of, row}
use Rattle.lexing.specs.Printed.{item_text, rest_text, line_text, text_of, plain, plain_line, plain_lines}
use Rattle.lexing.proofs.Items.{item-next, blank-next, end-next, plain_more, item_in}

-- ---- a line's items

-- a blank or nothing follows an item
rest-ends : (ts : List Token) → ends (rest_text ts) ≡ true
rest-ends [] = refl
rest-ends (t ∷ ts) = refl

none-back : (n : ℕ) → row n [] ≡ []
none-back zero = refl
none-back (suc n) = rw end-next

rest_back : (n : ℕ) (ts : List Token) → length ts ≤ n → all plain ts ≡ true → row n (rest_text ts) ≡ ts
rest_back n [] h p = none-back n
rest_back zero (t ∷ ts) h p = absurd (let z : ⊥ = omega arith in z)
rest_back (suc n) (t ∷ ts) h p =
    let q : plain t ≡ true = and_l (plain t) (all plain ts) p in
    rw (blank-next (item_text t ++ rest_text ts), item-next t (rest_text ts) q (rest-ends ts), plain_more t q)
    (ap (λ (l : List Token). t ∷ l) (rest_back n ts (omega arith) (and_r (plain t) (all plain ts) p)))

line-back : (n : ℕ) (l : List Token) → length l ≤ n → all plain l ≡ true → row n (line_text l) ≡ l
line-back n [] h p = none-back n
line-back zero (t ∷ ts) h p = absurd (let z : ⊥ = omega arith in z)
line-back (suc n) (t ∷ ts) h p =
    let q : plain t ≡ true = and_l (plain t) (all plain ts) p in
    rw (item-next t (rest_text ts) q (rest-ends ts), plain_more t q)
    (ap (λ (l : List Token). t ∷ l) (rest_back n ts (omega arith) (and_r (plain t) (all plain ts) p)))

-- ---- a text's lines

rest_in : (ts : List Token) → all plain ts ≡ true → all in_line (rest_text ts) ≡ true
rest_in [] p = refl
rest_in (t ∷ ts) p =
    all_append in_line (item_text t) (rest_text ts)
    ∙ and_i (all in_line (item_text t)) (all in_line (rest_text ts)) (item_in t (and_l (plain t) (all plain ts) p)) (rest_in ts (and_r (plain t) (all plain ts) p))

line-in : (l : List Token) → all plain l ≡ true → all in_line (line_text l) ≡ true
line-in [] p = refl
line-in (t ∷ ts) p = rest_in (t ∷ ts) p

-- the first line of a text
pub first-line : (w r : List ℕ) → all in_line w ≡ true → lines_of (w ++ (10 ∷ r)) ≡ w ∷ lines_of r
unfolding lines_of
first-line [] r p = refl
first-line (c ∷ w) r p = rw (not-true (eqb c 10) (and_l (in_line c) (all in_line w) p), first-line w r (and_r (in_line c) (all in_line w) p))

-- Reading what was printed.
pub printed-back : (n : ℕ) (ls : List (List Token)) → plain_lines n ls ≡ true → map (row n) (lines_of (text_of ls)) ≡ ls ++ ([] ∷ [])
unfolding text_of lines_of
printed-back n [] p = λ i. none-back n i ∷ []
printed-back n (l ∷ ls) p =
    let q : plain_line n l ≡ true = and_l (plain_line n l) (plain_lines n ls) p in
    let h : length l ≤ n = leb-true (length l) n (and_l (leb (length l) n) (all plain l) q) in
    let d : all plain l ≡ true = and_r (leb (length l) n) (all plain l) q in
    ap (λ (s : List ℕ). map (row n) (lines_of s)) (append_assoc (line_text l) (10 ∷ []) (text_of ls))
    ∙ ap (map (row n)) (first-line (line_text l) (text_of ls) (line-in l d))
    ∙ (λ i. line-back n l h d i ∷ printed-back n ls (and_r (plain_line n l) (plain_lines n ls) p) i)
