-- One line more, and one less, in the arrays of lines.
-- Assumes nothing.
use mathlib.Core.Path.{◌≡◌, refl, sym, ◌∙◌, ap}
use mathlib.Core.List.{List, [], ◌∷◌, ◌++◌, map, map-append}
use Prim.Native.Nat.{ℕ, suc, ◌+◌, ◌-◌, ◌<◌, ◌≤◌}
use native.Mathlib.Omega.{arith}
use native.Mathlib.Nat.{suc-add}
use native.Mathlib.Numerals.{add-one}
use lib.Dec.{ltb}
use lib.ListN.{length, get_or, drop, set, replicate, length-append, length-map}
use lib.Seq.{drop_at, take-append_seam}
use borrow.Author.Tests.{ltb-true, ltb-false}
use Rattle.causal.proofs.Tests.{test}
use Rattle.net.specs.Limits.{max_live}
use Rattle.net.specs.Tests.{table}
use Rattle.net.specs.Journal.{LiveLine}
use Rattle.net.proofs.Tables.{table-cong}
use Rattle.words.specs.Sets.{packed}
use Rattle.marking.specs.Form.{padded}
use Rattle.marking.specs.Shift.{gap}
use Rattle.marking.proofs.Padding.{pad-more}
use Rattle.marking.proofs.Shifts.{gap_below, gap_from}
use Rattle.bonds.proofs.InPlace.{table-take}
use Rattle.firings.specs.Lines.{lying, firings_of, closed, closed_up}

-- ---- one more

module _ (g : LiveLine → ℕ) (ls : List LiveLine) where
  -- the array of all g, one line more
  array-more : (l : LiveLine) (k x : ℕ) (a : List ℕ) → length ls < max_live → k ≡ length ls → x ≡ g l → a ≡ padded max_live (map g ls) → set a k x ≡ padded max_live (map g (ls ++ (l ∷ [])))
  array-more l k x a h ek ex ea =
      let size : length (map g ls) ≡ length ls = length-map ls g in
      (λ i. set (ea i) ((ek ∙ sym size) i) (ex i)) ∙ pad-more 0 max_live (map g ls) (g l) (omega arith) ∙ ap (padded max_live) (sym (map-append g ls (l ∷ [])))

-- a firing stored after the live ones is a line at the end
pub with-line : (ls : List LiveLine) (l : LiveLine) (k t u w : ℕ) (ts ks ms : List ℕ) → length ls < max_live → k ≡ length ls
    → t ≡ l.transition.0 → u ≡ l.key.0 → w ≡ packed l.moved
    → lying k ts ks ms ≡ firings_of ls → lying (k + 1) (set ts k t) (set ks k u) (set ms k w) ≡ firings_of (ls ++ (l ∷ []))
with-line ls l k t u w ts ks ms h ek et eu ew e =
    let live : k + 1 ≡ length (ls ++ (l ∷ [])) = (let b = length-append ls (l ∷ []) in omega arith) in
    let a = array-more (λ (x : LiveLine). x.transition.0) ls l k t ts h ek et (ap (λ f. f.transitions) e) in
    let b = array-more (λ (x : LiveLine). x.key.0) ls l k u ks h ek eu (ap (λ f. f.keys) e) in
    let c = array-more (λ (x : LiveLine). packed x.moved) ls l k w ms h ek ew (ap (λ f. f.moved) e) in
    λ i. lying (live i) (a i) (b i) (c i)

-- ---- one less

-- a list read past a gap
gap-list : (x : ℕ) (xs ys r : List ℕ) → table (length (xs ++ ys)) (gap (length xs) (λ i. get_or (xs ++ x ∷ ys ++ r) i 0)) ≡ xs ++ ys
gap-list x [] ys r =
    let f : ℕ → ℕ = λ i. get_or (x ∷ ys ++ r) i 0 in
    let size = length-append ys r in
    table-cong (length ys) (gap 0 f) (λ i. get_or (ys ++ r) i 0) (λ i _. gap_from 0 f i (omega arith) ∙ ap (λ (k : ℕ). get_or (x ∷ ys ++ r) k 0) (add-one i))
    ∙ table-take (length ys) (ys ++ r) 0 (omega arith) ∙ take-append_seam ys r
gap-list x (z ∷ xs) ys r =
    let f : ℕ → ℕ = λ i. get_or (z ∷ xs ++ x ∷ ys ++ r) i 0 in
    let g : ℕ → ℕ = λ i. get_or (xs ++ x ∷ ys ++ r) i 0 in
    let n : ℕ = length xs in
    let at : (i : ℕ) → gap (suc n) f (suc i) ≡ gap n g i = λ i. test (ltb i n)
    (λ e. let h = ltb-true i n e in gap_below (suc n) f (suc i) (omega arith) ∙ sym (gap_below n g i h))
    (λ e. let h = ltb-false i n e in
    gap_from (suc n) f (suc i) (omega arith) ∙ ap (λ (k : ℕ). get_or (z ∷ xs ++ x ∷ ys ++ r) k 0) (suc-add i 1) ∙ sym (gap_from n g i h)) in
    let rest : table (length (xs ++ ys)) (λ i. gap (suc n) f (suc i)) ≡ xs ++ ys = table-cong (length (xs ++ ys)) (λ i. gap (suc n) f (suc i)) (gap n g) (λ i _. at i) ∙ gap-list x xs ys r in
    λ i. gap_below (suc n) f 0 (omega arith) i ∷ rest i

-- an array closed up at the place of x holds the other numbers
padded-less : (N x : ℕ) (xs ys : List ℕ) → length (xs ++ x ∷ ys) ≤ N → closed (length (xs ++ x ∷ ys)) (length xs) (padded N (xs ++ x ∷ ys)) ≡ padded N (xs ++ ys)
padded-less N x xs ys h =
    let l : List ℕ = xs ++ x ∷ ys in
    let r : List ℕ = replicate (N - length l) 0 in
    let a = length-append xs ys in
    let b = length-append xs (x ∷ ys) in
    let left : length l - 1 ≡ length (xs ++ ys) = omega arith in
    let front : table (length l - 1) (gap (length xs) (λ i. get_or (padded N l) i 0)) ≡ xs ++ ys =
    ap (λ (n : ℕ). table n (gap (length xs) (λ i. get_or (l ++ r) i 0))) left
    ∙ gap-list x xs ys r in
    let back : 0 ∷ drop (length l) (padded N l) ≡ replicate (N - length (xs ++ ys)) 0 =
    ap (λ (k : List ℕ). 0 ∷ k) (drop_at l r (length l) refl) ∙ (let e : suc (N - length l) ≡ N - length (xs ++ ys) = omega arith in ap (λ (n : ℕ). replicate n 0) e) in
    λ i. front i ++ back i

module _ (g : LiveLine → ℕ) (l : LiveLine) (xs ys : List LiveLine) where
  array-less : length (xs ++ l ∷ ys) ≤ max_live → closed (length (xs ++ l ∷ ys)) (length xs) (padded max_live (map g (xs ++ l ∷ ys))) ≡ padded max_live (map g (xs ++ ys))
  array-less h =
      let e : map g (xs ++ l ∷ ys) ≡ map g xs ++ g l ∷ map g ys = map-append g xs (l ∷ ys) in
      let n : length (xs ++ l ∷ ys) ≡ length (map g xs ++ g l ∷ map g ys) = sym (length-map (xs ++ l ∷ ys) g) ∙ ap length e in
      let k : length xs ≡ length (map g xs) = sym (length-map xs g) in
      (λ i. closed (n i) (k i) (padded max_live (e i))) ∙ padded-less max_live (g l) (map g xs) (map g ys) (omega arith) ∙ ap (padded max_live) (sym (map-append g xs ys))

-- the arrays closed up at the place of l are those of the other lines
pub without-line : (l : LiveLine) (xs ys : List LiveLine) → length (xs ++ l ∷ ys) ≤ max_live → closed_up (length xs) (firings_of (xs ++ l ∷ ys)) ≡ firings_of (xs ++ ys)
without-line l xs ys h =
    let live : length (xs ++ l ∷ ys) - 1 ≡ length (xs ++ ys) = (let b = length-append xs ys in let c = length-append xs (l ∷ ys) in omega arith) in
    let a = array-less (λ (x : LiveLine). x.transition.0) l xs ys h in
    let b = array-less (λ (x : LiveLine). x.key.0) l xs ys h in
    let c = array-less (λ (x : LiveLine). packed x.moved) l xs ys h in
    λ i. lying (live i) (a i) (b i) (c i)
