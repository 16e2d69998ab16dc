-- Laws of the journal's lines: keys in order, a line added at the end, a line found by its key and taken out.
-- Assumes nothing.
use mathlib.Core.Path.{◌≡◌, refl, sym, ◌∙◌, ap, subst}
use mathlib.Core.Logic.{◌⊎◌, inl, inr}
use mathlib.Core.Bool.{Bool, true, false, not, ◌&&◌, ◌||◌}
use mathlib.Core.List.{List, [], ◌∷◌, ◌++◌}
use Prim.Native.Nat.{ℕ, zero, suc, ◌<◌, ◌≤◌}
use native.Mathlib.Omega.{arith}
use lib.Dec.{ltb}
use lib.ListN.{length}
use borrow.Author.Tests.{not-true, eqb-true, ltb-true, lt-ltb, eq-eqb, ne_eqb}
use Rattle.causal.specs.Lists.{Mem}
use Rattle.causal.specs.Reorderings.{DistinctKeys, IndependentOfAll}
use Rattle.causal.proofs.Tests.{both}
use Rattle.causal.proofs.Lists.{mem-mid, mem-skip}
use Rattle.net.specs.Tests.{pick}
use Rattle.net.specs.Firing.{in_set}
use Rattle.net.specs.Journal.{LiveLine, same_key, highest_live, is_live, line_of, without, common, built_on}
use Rattle.net.specs.declared.Key.{Key}
use Rattle.net.proofs.Tests.{fails, and_l, and_r, and_i, or_l, or_r, or-no-l, or-no-r, or-e, any-i, any-e, keep-mem, mem-keep}

-- ---- keys in order

-- the keys ascend strictly
abbrev pub Up : List LiveLine → Type 0
Up [] = Unit {0}
Up (l ∷ ls) = ((j : LiveLine) → Mem j ls → l.key.0 < j.key.0) × Up ls

pub key_of : {j l : LiveLine} → j ≡ l → j.key.0 ≡ l.key.0
key_of e = ap (λ (x : LiveLine). x.key.0) e

pub mem-highest : (ls : List LiveLine) (j : LiveLine) → Mem j ls → j.key.0 ≤ (highest_live ls).0
mem-highest [] j h = absurd h
mem-highest (l ∷ ls) j (inl e) = let k = key_of e in omega arith
mem-highest (l ∷ ls) j (inr h) = let k = mem-highest ls j h in omega arith

pub highest-snoc : (ls : List LiveLine) (l : LiveLine) → (highest_live ls).0 ≤ l.key.0 → (highest_live (ls ++ (l ∷ []))).0 ≡ l.key.0
highest-snoc [] l h = omega arith
highest-snoc (j ∷ ls) l h = let k = highest-snoc ls l (omega arith) in omega arith

pub highest-skip : (l : LiveLine) (xs ys : List LiveLine) → (highest_live (xs ++ ys)).0 ≤ (highest_live (xs ++ l ∷ ys)).0
highest-skip l [] ys = omega arith
highest-skip l (x ∷ xs) ys = let k = highest-skip l xs ys in omega arith

pub length-skip : (l : LiveLine) (xs ys : List LiveLine) → length (xs ++ ys) ≤ length (xs ++ l ∷ ys)
length-skip l [] ys = omega arith
length-skip l (x ∷ xs) ys = let k = length-skip l xs ys in omega arith

pub mem-snoc : (ls : List LiveLine) (l j : LiveLine) → Mem j (ls ++ (l ∷ [])) → Mem j ls ⊎ (j ≡ l)
mem-snoc [] l j (inl e) = inr e
mem-snoc [] l j (inr h) = absurd h
mem-snoc (x ∷ ls) l j (inl e) = inl (inl e)
mem-snoc (x ∷ ls) l j (inr h) = elim (mem-snoc ls l j h) [ inl k ↦ inl (inr k) | inr e ↦ inr e ]

pub up-snoc : (ls : List LiveLine) (l : LiveLine) → (highest_live ls).0 < l.key.0 → Up ls → Up (ls ++ (l ∷ []))
up-snoc [] l h u = ((λ j k. absurd k), tt)
up-snoc (x ∷ ls) l h u = ((λ j k. go j (mem-snoc ls l j k)), up-snoc ls l (omega arith) u.1)
  where
    go : (j : LiveLine) → Mem j ls ⊎ (j ≡ l) → x.key.0 < j.key.0
    go j (inl k) = u.0 j k
    go j (inr e) = let d = key_of e in omega arith

pub up-skip : (l : LiveLine) (xs ys : List LiveLine) → Up (xs ++ l ∷ ys) → Up (xs ++ ys)
up-skip l [] ys u = u.1
up-skip l (x ∷ xs) ys u = ((λ j h. u.0 j (mem-skip l xs ys j h)), up-skip l xs ys u.1)

pub up-after : (l : LiveLine) (xs ys : List LiveLine) → Up (xs ++ l ∷ ys) → (j : LiveLine) → Mem j ys → l.key.0 < j.key.0
up-after l [] ys u j h = u.0 j h
up-after l (x ∷ xs) ys u j h = up-after l xs ys u.1 j h

pub up-before : (l : LiveLine) (xs ys : List LiveLine) → Up (xs ++ l ∷ ys) → (j : LiveLine) → Mem j xs → j.key.0 < l.key.0
up-before l [] ys u j h = absurd h
up-before l (x ∷ xs) ys u j (inl e) = rw (key_of e) (u.0 l (mem-mid l xs ys))
up-before l (x ∷ xs) ys u j (inr h) = up-before l xs ys u.1 j h

pub up-distinct : (ls : List LiveLine) → Up ls → DistinctKeys ls
up-distinct [] u = tt
up-distinct (l ∷ ls) u = ((λ j h e. let k = u.0 j h in let d : j.key.0 ≡ l.key.0 = ap (λ (x : Key). x.0) e in omega arith), up-distinct ls u.1)

-- lines of one key are one
pub one_line : (ls : List LiveLine) → Up ls → (l h : LiveLine) → Mem l ls → Mem h ls → l.key.0 ≡ h.key.0 → l ≡ h
one_line [] u l h m n e = absurd m
one_line (x ∷ ls) u l h (inl p) (inl q) e = p ∙ sym q
one_line (x ∷ ls) u l h (inl p) (inr n) e = let a = u.0 h n in let b = key_of p in absurd (let z : ⊥ = omega arith in z)
one_line (x ∷ ls) u l h (inr m) (inl q) e = let a = u.0 l m in let b = key_of q in absurd (let z : ⊥ = omega arith in z)
one_line (x ∷ ls) u l h (inr m) (inr n) e = one_line ls u.1 l h m n e

-- ---- a line, found by its key and taken out

pub same_key_lem : (k i : Key) → same_key k i ≡ true → k ≡ i
same_key_lem k i h = λ n. record { 0 = eqb-true k.0 i.0 h n }

pub key-same : (k : Key) → same_key k k ≡ true
key-same k = eq-eqb k.0 k.0 refl

pub line-live : (ls : List LiveLine) (l : LiveLine) (k : Key) → Mem l ls → l.key.0 ≡ k.0 → is_live k ls ≡ true
line-live ls l k m e = any-i (λ (h : LiveLine). same_key h.key k) ls l m (eq-eqb l.key.0 k.0 e)

pub live-split : (k : Key) (ls : List LiveLine) → is_live k ls ≡ true
    → (xs : List LiveLine) × (ys : List LiveLine) × (ls ≡ xs ++ line_of k ls ∷ ys) × ((line_of k ls).key.0 ≡ k.0)
live-split k [] h = both false h refl
live-split k (l ∷ ls) h = go (same_key l.key k) refl h (live-split k ls)
  where
    Split : LiveLine → List LiveLine → Type 0
    Split l' all = (xs : List LiveLine) × (ys : List LiveLine) × (all ≡ xs ++ l' ∷ ys) × (l'.key.0 ≡ k.0)

    go : (b : Bool) → same_key l.key k ≡ b → (b || is_live k ls) ≡ true → (is_live k ls ≡ true → Split (line_of k ls) ls) → Split (pick b l (line_of k ls)) (l ∷ ls)
    go true e d ih = ([], ls, refl, eqb-true l.key.0 k.0 e)
    go false e d ih = let (xs, ys, q, r) = ih d in (l ∷ xs, ys, (λ i. l ∷ q i), r)

pub live-line : (ls : List LiveLine) (k : Key) → is_live k ls ≡ true → Mem (line_of k ls) ls × ((line_of k ls).key.0 ≡ k.0)
live-line ls k h = let (xs, ys, q, e) = live-split k ls h in (subst (λ (x : List LiveLine). Mem (line_of k ls) x) (sym q) (mem-mid (line_of k ls) xs ys), e)

pub own_line : (ls : List LiveLine) → Up ls → (l : LiveLine) → Mem l ls → line_of l.key ls ≡ l
own_line ls u l m = let (n, e) = live-line ls l.key (line-live ls l l.key m refl) in one_line ls u (line_of l.key ls) l n m e

pub mem-without : (k : Key) (ls : List LiveLine) (l : LiveLine) → Mem l (without k ls) → Mem l ls × (l.key.0 ≡ k.0 → ⊥)
mem-without k ls l m =
    let (n, e) = keep-mem (λ (x : LiveLine). not (same_key x.key k)) ls l m in
    (n, λ d. both (same_key l.key k) (eq-eqb l.key.0 k.0 d) (not-true (same_key l.key k) e))

pub without-mem : (k : Key) (ls : List LiveLine) (l : LiveLine) → Mem l ls → (l.key.0 ≡ k.0 → ⊥) → Mem l (without k ls)
without-mem k ls l m f = mem-keep (λ (x : LiveLine). not (same_key x.key k)) ls l m (rw (ne_eqb l.key.0 k.0 f))

without-later : (k : Key) (ys : List LiveLine) → ((j : LiveLine) → Mem j ys → k.0 < j.key.0) → without k ys ≡ ys
without-later k [] h = refl
without-later k (y ∷ ys) h =
    let m = h y (inl refl) in
    rw (ne_eqb y.key.0 k.0 (λ e. omega arith), without-later k ys (λ j n. h j (inr n)))

pub without-split : (k : Key) (l : LiveLine) (xs ys : List LiveLine) → l.key.0 ≡ k.0 → Up (xs ++ l ∷ ys) → without k (xs ++ l ∷ ys) ≡ xs ++ ys
without-split k l [] ys e u = rw (eq-eqb l.key.0 k.0 e) (without-later k ys (λ j h. let m = u.0 j h in omega arith))
without-split k l (x ∷ xs) ys e u =
    let m = u.0 l (mem-mid l xs ys) in
    rw (ne_eqb x.key.0 k.0 (λ d. omega arith), without-split k l xs ys e u.1)

-- ---- what was built on a line, and what was not

pub built-e : (ls : List LiveLine) (l : LiveLine) → built_on ls l ≡ true → (h : LiveLine) × Mem h ls × (l.key.0 < h.key.0) × (common l.moved h.moved ≡ true)
built-e ls l b =
    let (h, m, e) = any-e (λ (k : LiveLine). ltb l.key.0 k.key.0 && common l.moved k.moved) ls b in (
      h,
      m,
      ltb-true l.key.0 h.key.0 (and_l (ltb l.key.0 h.key.0) (common l.moved h.moved) e),
      and_r (ltb l.key.0 h.key.0) (common l.moved h.moved) e,
    )

pub built-i : (ls : List LiveLine) (l h : LiveLine) → Mem h ls → l.key.0 < h.key.0 → common l.moved h.moved ≡ true → built_on ls l ≡ true
built-i ls l h m a c = any-i (λ (k : LiveLine). ltb l.key.0 k.key.0 && common l.moved k.moved) ls h m
    (and_i (ltb l.key.0 h.key.0) (common l.moved h.moved) (lt-ltb l.key.0 h.key.0 a) c)

pub common-i : (m n : List Bool) (p : ℕ) → in_set m p ≡ true → in_set n p ≡ true → common m n ≡ true
common-i [] n p h k = h
common-i (a ∷ m) [] p h k = k
common-i (a ∷ m) (b ∷ n) zero h k = or_l (a && b) (common m n) (and_i a b h k)
common-i (a ∷ m) (b ∷ n) (suc p) h k = or_r (a && b) (common m n) (common-i m n p h k)

pub common-e : (m n : List Bool) → common m n ≡ true → (p : ℕ) × (in_set m p ≡ true) × (in_set n p ≡ true)
common-e [] n h = both false h refl
common-e (a ∷ m) [] h = both false h refl
common-e (a ∷ m) (b ∷ n) h = elim (or-e (a && b) (common m n) h) [ inl e ↦ (zero, and_l a b e, and_r a b e) | inr e ↦ let (p, u, v) = common-e m n e in (suc p, u, v) ]

pub independent-later : (l : LiveLine) (ys : List LiveLine) → ((j : LiveLine) → Mem j ys → l.key.0 < j.key.0) → built_on ys l ≡ false → IndependentOfAll in_set l.moved ys
independent-later l [] h b = tt
independent-later l (y ∷ ys) h b =
    let t : Bool = ltb l.key.0 y.key.0 && common l.moved y.moved in (
      (λ p q. fails (in_set y.moved p) (λ r. both t
          (and_i (ltb l.key.0 y.key.0) (common l.moved y.moved) (lt-ltb l.key.0 y.key.0 (h y (inl refl))) (common-i l.moved y.moved p q r))
          (or-no-l t (built_on ys l) b))),
      independent-later l ys (λ j m. h j (inr m)) (or-no-r t (built_on ys l) b),
    )

pub built_on-after : (l : LiveLine) (xs ys : List LiveLine) → built_on (xs ++ l ∷ ys) l ≡ false → built_on ys l ≡ false
built_on-after l [] ys b = or-no-r (ltb l.key.0 l.key.0 && common l.moved l.moved) (built_on ys l) b
built_on-after l (x ∷ xs) ys b = built_on-after l xs ys (or-no-r (ltb l.key.0 x.key.0 && common l.moved x.moved) (built_on (xs ++ l ∷ ys) l) b)
