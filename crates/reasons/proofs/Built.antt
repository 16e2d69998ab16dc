-- What a reason of refusal 20 says is so: the firing named came later and moved the base named, as the one did that was to
-- be taken back. Assumes nothing.
use mathlib.Core.Path.{◌≡◌, refl, sym, ap, subst, ◌∙◌}
use mathlib.Core.Bool.{Bool, true, false, ◌&&◌, ◌||◌}
use mathlib.Core.List.{List, [], ◌∷◌, ◌++◌}
use Prim.Native.Nat.{ℕ, zero, suc, ◌<◌, ◌≤◌}
use native.Mathlib.Omega.{arith}
use native.Mathlib.Numerals.{add-one}
use lib.Dec.{ltb}
use lib.ListN.{length, get_or, drop, length-drop, get_or-eq_default}
use lib.Seq.{get_or-drop, get_or-append_seam, drop-append-add}
use borrow.Author.Tests.{ltb-true, ltb-false}
use Rattle.causal.specs.Lists.{Mem}
use Rattle.causal.proofs.Tests.{both, test}
use Rattle.net.specs.Limits.{max_bases}
use Rattle.net.specs.Tests.{pick, any, table, first_at}
use Rattle.net.specs.Firing.{in_set}
use Rattle.net.specs.Net.{Net}
use Rattle.net.specs.Journal.{LiveLine, Journal, no_line, same_key, line_keys, is_live, line_of, common, built_on, key_named, refused, act}
use Rattle.net.specs.declared.Key.{Key}
use Rattle.net.proofs.Tests.{fails, and_i, and_l, and_r, or-no-l, or-no-r, any-i, any-e}
use Rattle.net.proofs.Tables.{length-table, get_d-table}
use Rattle.net.proofs.Keys.{Up, common-e, live-line}
use Rattle.net.proofs.Firsts.{first_on, first_holds}
use Rattle.bonds.proofs.Fill.{mem-table}
use Rattle.firings.specs.Search.{index_of}
use Rattle.firings.proofs.Laid.{mem-at}
use Rattle.firings.proofs.Built.{later-only}
use Rattle.reasons.specs.Reasons.{built_after, in_both, later_at, common_at}
use Rattle.reasons.proofs.Named.{refused-20}

-- of the numbers below n, the first that passes
first-number : (f : ℕ → Bool) (n : ℕ) → any f (table n (λ j. j)) ≡ true → f (first_at f (table n (λ j. j))) ≡ true
first-number f n h =
    let k : ℕ = first_at f (table n (λ j. j)) in
    let l : k < n = (let a = first_on f (table n (λ j. j)) h in let b = length-table n (λ j. j) in omega arith) in
    ap f (sym (get_d-table n (λ j. j) k 0 l)) ∙ first_holds f (table n (λ j. j)) 0 h

-- ---- by the lines

later-holds : (ls : List LiveLine) (i : ℕ) → any (built_after (get_or ls i no_line)) (drop (suc i) ls) ≡ true
    → (later_at ls i < length ls) × (common (get_or ls i no_line).moved (get_or ls (later_at ls i) no_line).moved ≡ true)
later-holds ls i h =
    let f : LiveLine → Bool = built_after (get_or ls i no_line) in
    let a = first_on f (drop (suc i) ls) h in
    let b = length-drop (suc i) ls in
    (omega arith, ap f (sym (get_or-drop (suc i) ls (first_at f (drop (suc i) ls)) no_line)) ∙ first_holds f (drop (suc i) ls) no_line h)

common-holds : (a b : List Bool) → length a ≤ max_bases → common a b ≡ true → (in_set a (common_at a b) ≡ true) × (in_set b (common_at a b) ≡ true)
common-holds a b u h =
    let (p, x, y) = common-e a b h in
    let low : p < max_bases = test (ltb p (length a)) (λ e. let l = ltb-true p (length a) e in omega arith) (λ e. both (in_set a p) x (get_or-eq_default a false (ltb-false p (length a) e))) in
    let some : any (in_both a b) (table max_bases (λ q. q)) ≡ true = any-i (in_both a b) (table max_bases (λ q. q)) p (mem-table max_bases (λ q. q) p low) (and_i (in_set a p) (in_set b p) x y) in
    let k = first-number (in_both a b) max_bases some in
    (and_l (in_set a (common_at a b)) (in_set b (common_at a b)) k, and_r (in_set a (common_at a b)) (in_set b (common_at a b)) k)

-- those after a line have higher keys
up-later : (l : LiveLine) (xs ys : List LiveLine) → Up (xs ++ l ∷ ys) → (r : ℕ) → length xs < r → r < length (xs ++ l ∷ ys) → l.key.0 < (get_or (xs ++ l ∷ ys) r no_line).key.0
up-later l [] ys u zero h k = absurd (let z : ⊥ = omega arith in z)
up-later l [] ys u (suc r) h k = u.0 (get_or ys r no_line) (mem-at ys no_line r (omega arith))
up-later l (x ∷ xs) ys u zero h k = absurd (let z : ⊥ = omega arith in z)
up-later l (x ∷ xs) ys u (suc r) h k = up-later l xs ys u.1 r (omega arith) (omega arith)

-- the base named for the line at i and the one that came after it
abbrev pub base_in : List LiveLine → ℕ → ℕ
base_in ls i = common_at (get_or ls i no_line).moved (get_or ls (later_at ls i) no_line).moved

-- The firing named is live and has a higher key than l, the one at i; and both moved the base named.
pub record CameLater (ls : List LiveLine) (l : LiveLine) (i : ℕ) : Type 0 where
  pub there : later_at ls i < length ls
  pub later : l.key.0 < (get_or ls (later_at ls i) no_line).key.0
  pub mine : in_set l.moved (base_in ls i) ≡ true
  pub other : in_set (get_or ls (later_at ls i) no_line).moved (base_in ls i) ≡ true

module _ (l : LiveLine) (xs ys : List LiveLine) (few : length l.moved ≤ max_bases) (up : Up (xs ++ l ∷ ys)) where
  abbrev ls : List LiveLine
  ls = xs ++ l ∷ ys

  abbrev at : ℕ
  at = later_at ls (length xs)

  own : get_or ls (length xs) no_line ≡ l
  own = get_or-append_seam xs l ys no_line

  behind : drop (suc (length xs)) ls ≡ ys
  behind = ap (λ (k : ℕ). drop k ls) (sym (add-one (length xs))) ∙ drop-append-add xs (l ∷ ys) 1

  came-later : built_on ls l ≡ true → CameLater ls l (length xs)
  came-later h =
      let (there, met) = later-holds ls (length xs) ((λ x. any (built_after (own x)) (behind x)) ∙ sym (later-only l xs ys up) ∙ h) in
      let (mine, other) = common-holds (get_or ls (length xs) no_line).moved (get_or ls at no_line).moved (rw own few) met in
      record {
        there = there;
        later = up-later l xs ys up at (omega arith) there;
        mine = ap (λ (k : LiveLine). in_set k.moved (base_in ls (length xs))) (sym own) ∙ mine;
        other = other;
      }

-- ---- by the command

-- the line of a live key stands where the key does
line-split : (k : Key) (ls : List LiveLine) → is_live k ls ≡ true → (xs : List LiveLine) × (ys : List LiveLine) × (ls ≡ xs ++ line_of k ls ∷ ys) × (length xs ≡ index_of k (line_keys ls))
line-split k [] h = both false h refl
line-split k (l ∷ ls) h = go (same_key l.key k) h (line-split k ls)
  where
    go : (b : Bool) → (b || is_live k ls) ≡ true
        → (is_live k ls ≡ true → (xs : List LiveLine) × (ys : List LiveLine) × (ls ≡ xs ++ line_of k ls ∷ ys) × (length xs ≡ index_of k (line_keys ls)))
        → (xs : List LiveLine) × (ys : List LiveLine) × (l ∷ ls ≡ xs ++ pick b l (line_of k ls) ∷ ys) × (length xs ≡ pick b 0 (suc (index_of k (line_keys ls))))
    go true e ih = ([], ls, refl, refl)
    go false e ih = let (xs, ys, p, q) = ih e in (l ∷ xs, ys, ap (λ (z : List LiveLine). l ∷ z) p, ap suc q)

-- a key that is not live has no line, and nothing is built on none
line-none : (k : Key) (ls : List LiveLine) → is_live k ls ≡ false → line_of k ls ≡ no_line
line-none k [] h = refl
line-none k (l ∷ ls) h = rw (or-no-l (same_key l.key k) (is_live k ls) h) (line-none k ls (or-no-r (same_key l.key k) (is_live k ls) h))

none-built : (ls : List LiveLine) → built_on ls no_line ≡ false
none-built ls = fails (built_on ls no_line) (λ h. let (m, i, e) = any-e (λ (k : LiveLine). ltb 0 k.key.0 && false) ls h in both false (and_r (ltb 0 m.key.0) false e) refl)

built-live : (k : Key) (ls : List LiveLine) → built_on ls (line_of k ls) ≡ true → is_live k ls ≡ true
built-live k ls h = test (is_live k ls) (λ e. e) (λ e. both (built_on ls no_line) (ap (built_on ls) (sym (line-none k ls e)) ∙ h) (none-built ls))

module _ (net : Net) (j : Journal) (c : List ℕ) (few : (k : LiveLine) → Mem k j.lines → length k.moved ≤ max_bases) (up : Up j.lines) where
  abbrev key : Key
  key = key_named j c

  -- 20: the firing named came later than the one that was to be taken back, and both moved the base named
  pub built-holds : (act net j c).answer ≡ refused 20 → CameLater j.lines (line_of key j.lines) (index_of key (line_keys j.lines))
  built-holds r =
      let l : LiveLine = line_of key j.lines in
      let h : built_on j.lines l ≡ true = refused-20 net j c r in
      let live : is_live key j.lines ≡ true = built-live key j.lines h in
      let (xs, ys, e, p) = line-split key j.lines live in
      subst (λ (ls : List LiveLine). CameLater ls l (index_of key (line_keys j.lines))) (sym e)
      (subst (λ (i : ℕ). CameLater (xs ++ l ∷ ys) l i) p
      (came-later l xs ys (few l (live-line j.lines key live).0) (subst (λ (ls : List LiveLine). Up ls) e up) (subst (λ (ls : List LiveLine). built_on ls l ≡ true) e h)))
