-- Laws of lists with zeros after them: a loop that fills a list of zeros, and a list that is zero from k on.
-- Assumes nothing.
use mathlib.Core.Path.{◌≡◌, refl, sym, ◌∙◌, ap}
use mathlib.Core.Bool.{Bool, true}
use mathlib.Core.List.{List, [], ◌∷◌, ◌++◌, append_assoc}
use Prim.Native.Nat.{ℕ, zero, suc, ◌-◌, ◌<◌, ◌≤◌}
use native.Mathlib.Omega.{arith}
use lib.Dec.{eqb}
use lib.ListN.{length, take, drop, set, replicate, length-drop, length-append, length-replicate, take-append-drop}
use lib.Seq.{length-take-le, take_at, drop_at, set_at}
use borrow.Author.Tests.{eqb-true}
use Rattle.net.specs.Tests.{all, table}
use Rattle.net.proofs.Tests.{and_l, and_r}
use Rattle.net.proofs.Tables.{length-table}
use Rattle.marking.specs.Form.{padWith, padded, zero_from}

module _ {X : Type 0} where
  pub drop-replicate : (i n : ℕ) (x : X) → drop i (replicate n x) ≡ replicate (n - i) x
  drop-replicate zero n x = let e : n ≡ n - zero = omega arith in ap (λ (k : ℕ). replicate k x) e
  drop-replicate (suc i) zero x = let e : zero ≡ zero - suc i = omega arith in ap (λ (k : ℕ). replicate k x) e
  drop-replicate (suc i) (suc n) x = let e : n - i ≡ suc n - suc i = omega arith in drop-replicate i n x ∙ ap (λ (k : ℕ). replicate k x) e

  -- the loop that fills a list of d ends
  pub fill-padded : (f : ℕ → X) (d : X) (i k n : ℕ) (l₀ l : List X) → l₀ ≡ replicate n d → i ≡ k → l ≡ table i f ++ drop i l₀ → l ≡ padWith d n (table k f)
  fill-padded f d i k n l₀ l z e q =
      q ∙ ap (λ (r : List X). table i f ++ drop i r) z
      ∙ ap (λ (r : List X). table i f ++ r) (drop-replicate i n d ∙ ap (λ (r : ℕ). replicate (n - r) d) (sym (length-table i f)))
      ∙ ap (λ (r : ℕ). padWith d n (table r f)) e

  one-off : (n : ℕ) (d : X) → 0 < n → replicate n d ≡ d ∷ replicate (n - 1) d
  one-off zero d h = absurd (let z : ⊥ = omega arith in z)
  one-off (suc n) d h = let e : suc n - 1 ≡ n = omega arith in rw e

  -- the list with x, and then one d less
  pad-snoc : (d : X) (N : ℕ) (l : List X) (x : X) → length l < N → l ++ x ∷ replicate (N - length l - 1) d ≡ padWith d N (l ++ (x ∷ []))
  pad-snoc d N l x h =
      let less : N - length l - 1 ≡ N - length (l ++ (x ∷ [])) = (let e = length-append l (x ∷ []) in omega arith) in
      sym (append_assoc l (x ∷ []) (replicate (N - length l - 1) d)) ∙ ap (λ (n : ℕ). (l ++ (x ∷ [])) ++ replicate n d) less

  -- an element stored after the others, in place of a d
  pub pad-more : (d : X) (N : ℕ) (l : List X) (x : X) → length l < N → set (padWith d N l) (length l) x ≡ padWith d N (l ++ (x ∷ []))
  pad-more d N l x h =
      ap (λ (r : List X). set (l ++ r) (length l) x) (one-off (N - length l) d (omega arith)) ∙ set_at l d (replicate (N - length l - 1) d) x (length l) refl ∙ pad-snoc d N l x h

  -- d itself stored there changes nothing
  pub pad-same : (d : X) (N : ℕ) (l : List X) → length l < N → padWith d N (l ++ (d ∷ [])) ≡ padWith d N l
  pad-same d N l h = sym (ap (λ (r : List X). l ++ r) (one-off (N - length l) d (omega arith)) ∙ pad-snoc d N l d h)

-- where only d passes the test, a list whose elements from k on pass is its first k, padded
module _ {X : Type 0} (t : X → Bool) (d : X) (only : (x : X) → t x ≡ true → x ≡ d) where
  rest-same : (l : List X) → all t l ≡ true → l ≡ replicate (length l) d
  rest-same [] h = refl
  rest-same (x ∷ l) h =
      let e : x ≡ d = only x (and_l (t x) (all t l) h) in
      let q : l ≡ replicate (length l) d = rest-same l (and_r (t x) (all t l) h) in
      λ i. e i ∷ q i

  pub rest-padded : (l : List X) (k n : ℕ) → length l ≡ n → k ≤ n → all t (drop k l) ≡ true → l ≡ padWith d n (take k l)
  rest-padded l k n s h z =
      let a : length (take k l) ≡ k = length-take-le k l (omega arith) in
      let b : length (drop k l) ≡ n - length (take k l) = length-drop k l ∙ (omega arith) in
      sym (take-append-drop k l) ∙ ap (λ (r : List X). take k l ++ r) (rest-same (drop k l) z ∙ ap (λ (r : ℕ). replicate r d) b)

-- a list of n that is zero from k on
pub zero-padded : (l : List ℕ) (k n : ℕ) → length l ≡ n → k ≤ n → zero_from k l ≡ true → l ≡ padded n (take k l)
zero-padded = rest-padded (λ (x : ℕ). eqb x 0) 0 (λ x e. eqb-true x 0 e)

pub length-padded : (l : List ℕ) (n : ℕ) → length l ≤ n → length (padded n l) ≡ n
length-padded l n h = length-append l (replicate (n - length l) 0) ∙ rw (length-replicate {A = ℕ} (n - length l) 0) (omega arith)

pub take-padded : (l : List ℕ) (n k : ℕ) → length l ≡ k → take k (padded n l) ≡ l
take-padded l n k e = take_at l (replicate (n - length l) 0) k e

all-zero : (n : ℕ) → all (λ (x : ℕ). eqb x 0) (replicate n 0) ≡ true
all-zero zero = refl
all-zero (suc n) = all-zero n

pub padded-zero : (l : List ℕ) (n k : ℕ) → length l ≡ k → zero_from k (padded n l) ≡ true
padded-zero l n k e = ap (all (λ (x : ℕ). eqb x 0)) (drop_at l (replicate (n - length l) 0) k e) ∙ all-zero (n - length l)
