-- What was built on a line: the later ones have the higher keys; and sets as words meet where sets do.
-- Assumes nothing.
use mathlib.Core.Path.{◌≡◌, refl, sym, ◌∙◌, ap}
use mathlib.Core.Bool.{Bool, false, ◌&&◌, ◌||◌}
use mathlib.Core.List.{List, [], ◌∷◌, ◌++◌}
use Prim.Native.Nat.{ℕ, zero, suc, ◌+◌, ◌*◌, ◌-◌, ◌<◌, ◌≤◌}
use native.Mathlib.Omega.{arith}
use lib.Dec.{ltb}
use lib.ListN.{length, replicate, length-append, length-replicate}
use borrow.Author.Tests.{lt-ltb, le-ltb}
use Rattle.causal.proofs.Lists.{mem-mid}
use Rattle.net.specs.Limits.{max_bases}
use Rattle.net.specs.Tests.{pick, any}
use Rattle.net.specs.Journal.{LiveLine, common, built_on}
use Rattle.net.proofs.Tests.{any-cong}
use Rattle.net.proofs.Keys.{Up}
use Rattle.words.specs.Sets.{set_of, packed}
use Rattle.words.proofs.Bits.{set-packed}

-- ---- a set as a word, with bits for more bases

packed_none : (k : ℕ) → packed (replicate k false) ≡ 0
unfolding packed
packed_none zero = refl
packed_none (suc k) = let e = packed_none k in omega arith

packed-pad : (l : List Bool) (k : ℕ) → packed (l ++ replicate k false) ≡ packed l
unfolding packed
packed-pad [] k = packed_none k
packed-pad (b ∷ l) k = ap (λ (x : ℕ). x * 2 + pick b 1 0) (packed-pad l k)

-- the set of all bits: none above the bases is in it
pub set-wide : (N : ℕ) (l : List Bool) → length l ≤ N → set_of N (packed l) ≡ l ++ replicate (N - length l) false
set-wide N l h =
    let m : List Bool = l ++ replicate (N - length l) false in
    let size : N ≡ length m = (let a = length-append l (replicate (N - length l) false) in let b = length-replicate (N - length l) false in omega arith) in
    (λ i. set_of (size i) (sym (packed-pad l (N - length l)) i)) ∙ set-packed m

common-pad : (a b : List Bool) (x y : ℕ) → length a ≡ length b → common (a ++ replicate x false) (b ++ replicate y false) ≡ common a b
common-pad [] [] zero y e = refl
common-pad [] [] (suc x) zero e = refl
common-pad [] [] (suc x) (suc y) e = common-pad [] [] x y e
common-pad [] (c ∷ b) x y e = absurd (let z : ⊥ = omega arith in z)
common-pad (c ∷ a) [] x y e = absurd (let z : ⊥ = omega arith in z)
common-pad (c ∷ a) (d ∷ b) x y e = ap (λ (h : Bool). (c && d) || h) (common-pad a b x y (omega arith))

pub common-words : (n : ℕ) (a b : List Bool) → n ≤ max_bases → length a ≡ n → length b ≡ n → common (set_of max_bases (packed a)) (set_of max_bases (packed b)) ≡ common a b
common-words n a b h p q =
    (λ i. common (set-wide max_bases a (rw p h) i) (set-wide max_bases b (rw q h) i)) ∙ common-pad a b (max_bases - length a) (max_bases - length b) (p ∙ sym q)

-- ---- those after a line

-- of ascending lines, those after l have higher keys, the others do not
pub later-only : (l : LiveLine) (xs ys : List LiveLine) → Up (xs ++ l ∷ ys) → built_on (xs ++ l ∷ ys) l ≡ any (λ (k : LiveLine). common l.moved k.moved) ys
later-only l [] ys u =
    let own : ltb l.key.0 l.key.0 ≡ false = le-ltb l.key.0 l.key.0 (omega arith) in
    rw own (any-cong (λ (k : LiveLine). ltb l.key.0 k.key.0 && common l.moved k.moved) (λ (k : LiveLine). common l.moved k.moved) ys
    (λ k m. ap (λ (b : Bool). b && common l.moved k.moved) (lt-ltb l.key.0 k.key.0 (u.0 k m))))
later-only l (x ∷ xs) ys u =
    let a : x.key.0 < l.key.0 = u.0 l (mem-mid l xs ys) in
    let b : ltb l.key.0 x.key.0 ≡ false = le-ltb l.key.0 x.key.0 (omega arith) in
    rw b (later-only l xs ys u.1)
