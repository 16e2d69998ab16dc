-- What goes is what depends on the given line, directly or through others, and the set is what those moved (02, T-08).
-- Assumes nothing.
use mathlib.Core.Path.{◌≡◌, refl, sym, ◌∙◌, ap}
use mathlib.Core.Logic.{◌⊎◌, inl, inr}
use mathlib.Core.Bool.{Bool, true, false}
use mathlib.Core.List.{List, [], ◌∷◌, ◌++◌}
use Prim.Native.Nat.{ℕ, ◌<◌, ◌≤◌}
use native.Mathlib.Omega.{arith}
use borrow.Author.Tests.{eq-eqb, ne_eqb}
use Rattle.causal.specs.Lists.{Mem}
use Rattle.causal.proofs.Tests.{both}
use Rattle.causal.proofs.Lists.{mem-mid}
use Rattle.net.specs.Tests.{pick}
use Rattle.net.specs.Firing.{in_set}
use Rattle.net.specs.Journal.{LiveLine, common}
use Rattle.net.specs.declared.Key.{Key}
use Rattle.net.proofs.Tests.{or-e, pick-case, fails}
use Rattle.net.proofs.Keys.{Up, common-i, common-e}
use Rattle.words.specs.Sets.{either}
use Rattle.words.proofs.Bits.{either-at}
use Rattle.spread.specs.Depends.{Depends, itself, through, spread, others, spread_of, remaining}
use Rattle.spread.proofs.Sets.{either_l, either_r, common-no}
use Rattle.spread.proofs.Left.{others-mem, rest-mem}

-- a line that is left has no base of the set
kept-apart : (ys : List LiveLine) (m : List Bool) (x : LiveLine) → Mem x (others m ys) → (p : ℕ) → in_set m p ≡ true → in_set x.moved p ≡ false
kept-apart [] m x h p e = absurd h
kept-apart (l ∷ ys) m x h p e = pick-case' (common m l.moved) refl h (λ k n d. kept-apart ys k x n p d)
  where
    pick-case' : (c : Bool) → common m l.moved ≡ c → Mem x (pick c (others (either m l.moved) ys) (l ∷ others m ys))
        → ((k : List Bool) → Mem x (others k ys) → in_set k p ≡ true → in_set x.moved p ≡ false) → in_set x.moved p ≡ false
    pick-case' true c h ih = ih (either m l.moved) h (either_l m l.moved p e)
    pick-case' false c (inl q) ih = ap (λ (y : LiveLine). in_set y.moved p) q ∙ common-no m l.moved c p e
    pick-case' false c (inr h) ih = ih m h e

-- nor a base of an earlier line that goes
kept_free : (ys : List LiveLine) (m : List Bool) → Up ys → (x y : LiveLine) → Mem x (others m ys) → Mem y ys → (Mem y (others m ys) → ⊥) → y.key.0 < x.key.0
    → common y.moved x.moved ≡ false
kept_free [] m u x y h i g lt = absurd h
kept_free (l ∷ ys) m u x y h i g lt = go (common m l.moved) h i g (λ k a b c. kept_free ys k u.1 x y a b c lt)
  where
    go : (c : Bool) → Mem x (pick c (others (either m l.moved) ys) (l ∷ others m ys)) → Mem y (l ∷ ys) → (Mem y (pick c (others (either m l.moved) ys) (l ∷ others m ys)) → ⊥)
        → ((k : List Bool) → Mem x (others k ys) → Mem y ys → (Mem y (others k ys) → ⊥) → common y.moved x.moved ≡ false) → common y.moved x.moved ≡ false
    go true h (inl q) g ih = fails (common y.moved x.moved) (λ c.
        let (p, a, b) = common-e y.moved x.moved c in
        both (in_set x.moved p) b (kept-apart ys (either m l.moved) x h p (either_r m l.moved p (ap (λ (z : LiveLine). in_set z.moved p) (sym q) ∙ a))))
    go true h (inr i) g ih = ih (either m l.moved) h i g
    go false h (inl q) g ih = absurd (g (inl q))
    go false (inl q) (inr i) g ih =
        let a : x.key.0 ≡ l.key.0 = ap (λ (z : LiveLine). z.key.0) q in
        let b = u.0 y i in
        absurd (let z : ⊥ = omega arith in z)
    go false (inr h) (inr i) g ih = ih m h i (λ n. g (inr n))

spread-grows : (ys : List LiveLine) (m : List Bool) (p : ℕ) → in_set m p ≡ true → in_set (spread m ys) p ≡ true
spread-grows [] m p e = e
spread-grows (l ∷ ys) m p e = pick-case (λ (s : List Bool). in_set s p ≡ true) (common m l.moved) (spread (either m l.moved) ys) (spread m ys)
    (λ _. spread-grows ys (either m l.moved) p (either_l m l.moved p e)) (λ _. spread-grows ys m p e)

-- the bases of a line that goes are in the set at the end
gone-inside : (ys : List LiveLine) (m : List Bool) (y : LiveLine) → Mem y ys → (Mem y (others m ys) → ⊥) → (p : ℕ) → in_set y.moved p ≡ true → in_set (spread m ys) p ≡ true
gone-inside [] m y i g p e = absurd i
gone-inside (l ∷ ys) m y i g p e = go (common m l.moved) i g (λ k a b. gone-inside ys k y a b p e)
  where
    go : (c : Bool) → Mem y (l ∷ ys) → (Mem y (pick c (others (either m l.moved) ys) (l ∷ others m ys)) → ⊥)
        → ((k : List Bool) → Mem y ys → (Mem y (others k ys) → ⊥) → in_set (spread k ys) p ≡ true) → in_set (pick c (spread (either m l.moved) ys) (spread m ys)) p ≡ true
    go true (inl q) g ih = spread-grows ys (either m l.moved) p (either_r m l.moved p (ap (λ (z : LiveLine). in_set z.moved p) (sym q) ∙ e))
    go true (inr i) g ih = ih (either m l.moved) i g
    go false (inl q) g ih = absurd (g (inl q))
    go false (inr i) g ih = ih m i (λ n. g (inr n))

pub depends-mem : {ls : List LiveLine} {l m : LiveLine} → Depends ls l m → Mem l ls → Mem m ls
depends-mem itself i = i
depends-mem (through d a b c) i = a

-- what goes depends on the given line, and what is in the set was moved by such a line
module _ (all : List LiveLine) (l₀ : LiveLine) where
  -- each base of m was moved by a line that depends on the given one and is earlier than all of ys
  abbrev Source : List Bool → List LiveLine → Type 0
  Source m ys = (p : ℕ) → in_set m p ≡ true → (y : LiveLine) × Mem y all × Depends all l₀ y × (in_set y.moved p ≡ true) × ((x : LiveLine) → Mem x ys → y.key.0 < x.key.0)

  source-next : (m : List Bool) (l : LiveLine) (ys : List LiveLine) → Up (l ∷ ys) → Mem l all → Source m (l ∷ ys) → common m l.moved ≡ true → Depends all l₀ l × Source (either m l.moved) ys
  source-next m l ys u i S c =
      let (p, a, b) = common-e m l.moved c in
      let (y, n, d, e, f) = S p a in
      let D : Depends all l₀ l = through d i (f l (inl refl)) (common-i y.moved l.moved p e b) in
      (D, λ p q. from p D (or-e (in_set m p) (in_set l.moved p) (sym (either-at m l.moved p) ∙ q)))
    where
      from : (p : ℕ) → Depends all l₀ l → (in_set m p ≡ true) ⊎ (in_set l.moved p ≡ true)
          → (y : LiveLine) × Mem y all × Depends all l₀ y × (in_set y.moved p ≡ true) × ((x : LiveLine) → Mem x ys → y.key.0 < x.key.0)
      from p D (inl e) = let (y, n, d, a, f) = S p e in (y, n, d, a, λ x k. f x (inr k))
      from p D (inr e) = (l, i, D, e, u.0)

  reach : (ys : List LiveLine) (m : List Bool) → Up ys → ((y : LiveLine) → Mem y ys → Mem y all) → Source m ys
      → ((x : LiveLine) → Mem x ys → Mem x (others m ys) ⊎ Depends all l₀ x)
      × ((p : ℕ) → in_set (spread m ys) p ≡ true → (y : LiveLine) × Mem y all × Depends all l₀ y × (in_set y.moved p ≡ true))
  reach [] m u sub S = ((λ x h. absurd h), λ p e. let (y, n, d, a, f) = S p e in (y, n, d, a))
  reach (l ∷ ys) m u sub S = go (common m l.moved) refl (λ k S'. reach ys k u.1 (λ y n. sub y (inr n)) S')
    where
      Got : List Bool → List LiveLine → List LiveLine → Type 0
      Got s os zs = ((x : LiveLine) → Mem x zs → Mem x os ⊎ Depends all l₀ x) × ((p : ℕ) → in_set s p ≡ true → (y : LiveLine) × Mem y all × Depends all l₀ y × (in_set y.moved p ≡ true))

      go : (c : Bool) → common m l.moved ≡ c → ((k : List Bool) → Source k ys → Got (spread k ys) (others k ys) ys)
          → Got (pick c (spread (either m l.moved) ys) (spread m ys)) (pick c (others (either m l.moved) ys) (l ∷ others m ys)) (l ∷ ys)
      go true c ih =
          let (D, S') = source-next m l ys u (sub l (inl refl)) S c in
          let (a, b) = ih (either m l.moved) S' in
          ((λ x h. one D a x h), b)
        where
          one : Depends all l₀ l → ((x : LiveLine) → Mem x ys → Mem x (others (either m l.moved) ys) ⊎ Depends all l₀ x) → (x : LiveLine) → Mem x (l ∷ ys) → Mem x (others (either m l.moved) ys) ⊎ Depends all l₀ x
          one D a x (inl q) = inr (rw q D)
          one D a x (inr h) = a x h
      go false c ih =
          let (a, b) = ih m (λ p e. let (y, n, d, i, f) = S p e in (y, n, d, i, λ x k. f x (inr k))) in
          ((λ x h. one a x h), b)
        where
          one : ((x : LiveLine) → Mem x ys → Mem x (others m ys) ⊎ Depends all l₀ x) → (x : LiveLine) → Mem x (l ∷ ys) → Mem x (l ∷ others m ys) ⊎ Depends all l₀ x
          one a x (inl q) = inl (inl q)
          one a x (inr h) = elim (a x h) [ inl n ↦ inl (inr n) | inr d ↦ inr d ]

-- ---- the lines before the given one, it, and those after it

pub record Facts (ls : List LiveLine) (l : LiveLine) (s : List Bool) (os : List LiveLine) : Type 0 where
  pub inside : (p : ℕ) → in_set s p ≡ true → (m : LiveLine) × Mem m ls × Depends ls l m × (in_set m.moved p ≡ true)
  pub covers : (p : ℕ) (m : LiveLine) → Depends ls l m → in_set m.moved p ≡ true → in_set s p ≡ true
  pub free : (m : LiveLine) → Mem m os → Mem m ls × (Depends ls l m → ⊥)
  pub splits : (m : LiveLine) → Mem m ls → Mem m os ⊎ Depends ls l m

module _ (xs ys : List LiveLine) (l : LiveLine) (u : Up (xs ++ l ∷ ys)) where
  mem-append : (xs zs : List LiveLine) (x : LiveLine) → Mem x (xs ++ zs) → Mem x xs ⊎ Mem x zs
  mem-append [] zs x h = inr h
  mem-append (y ∷ xs) zs x (inl e) = inl (inl e)
  mem-append (y ∷ xs) zs x (inr h) = elim (mem-append xs zs x h) [ inl n ↦ inl (inr n) | inr n ↦ inr n ]

  mem-fore : (xs zs : List LiveLine) (x : LiveLine) → Mem x xs → Mem x (xs ++ zs)
  mem-fore [] zs x h = absurd h
  mem-fore (y ∷ xs) zs x (inl e) = inl e
  mem-fore (y ∷ xs) zs x (inr h) = inr (mem-fore xs zs x h)

  mem-aft : (xs zs : List LiveLine) (x : LiveLine) → Mem x zs → Mem x (xs ++ zs)
  mem-aft [] zs x h = h
  mem-aft (y ∷ xs) zs x h = inr (mem-aft xs zs x h)

  up-part : (xs : List LiveLine) → Up (xs ++ l ∷ ys) → Up (l ∷ ys)
  up-part [] u = u
  up-part (x ∷ xs) u = up-part xs u.1

  before-l : (xs : List LiveLine) → Up (xs ++ l ∷ ys) → (x : LiveLine) → Mem x xs → x.key.0 < l.key.0
  before-l [] u x h = absurd h
  before-l (y ∷ xs) u x (inl e) = let a = u.0 l (mem-mid l xs ys) in let b : x.key.0 ≡ y.key.0 = ap (λ (z : LiveLine). z.key.0) e in omega arith
  before-l (y ∷ xs) u x (inr h) = before-l xs u.1 x h

  -- l, or a later line that is not left
  abbrev Gone : LiveLine → Type 0
  Gone x = (x ≡ l) ⊎ (Mem x ys × (Mem x (others l.moved ys) → ⊥))

  gone-low : (x : LiveLine) → Gone x → l.key.0 ≤ x.key.0
  gone-low x (inl e) = let a : x.key.0 ≡ l.key.0 = ap (λ (z : LiveLine). z.key.0) e in omega arith
  gone-low x (inr g) = let a = (up-part xs u).0 x g.0 in omega arith

  after-l : (x : LiveLine) → Mem x (xs ++ l ∷ ys) → l.key.0 < x.key.0 → Mem x ys
  after-l x m h = go (mem-append xs (l ∷ ys) x m)
    where
      go : Mem x xs ⊎ Mem x (l ∷ ys) → Mem x ys
      go (inl n) = let a = before-l xs u x n in absurd (let z : ⊥ = omega arith in z)
      go (inr (inl e)) = let a : x.key.0 ≡ l.key.0 = ap (λ (z : LiveLine). z.key.0) e in absurd (let z : ⊥ = omega arith in z)
      go (inr (inr n)) = n

  gone-next : (a k : LiveLine) → Gone a → Mem k (xs ++ l ∷ ys) → a.key.0 < k.key.0 → common a.moved k.moved ≡ true → Gone k
  gone-next a k g m lt c =
      let low = gone-low a g in
      let n : Mem k ys = after-l k m (omega arith) in
      inr (n, λ h. not-kept g h)
    where
      not-kept : Gone a → Mem k (others l.moved ys) → ⊥
      not-kept (inl e) h =
          let (p, i, o) = common-e a.moved k.moved c in
          both (in_set k.moved p) o (kept-apart ys l.moved k h p (ap (λ (z : LiveLine). in_set z.moved p) (sym e) ∙ i))
      not-kept (inr (i, g)) h = both (common a.moved k.moved) c (kept_free ys l.moved (up-part xs u).1 k a h i g lt)

  gone-all : {a x : LiveLine} → Depends (xs ++ l ∷ ys) a x → Gone a → Gone x
  gone-all itself g = g
  gone-all (through {k = k} {m = x} d m lt c) g = gone-next k x (gone-all d g) m lt c

  reached : ((x : LiveLine) → Mem x ys → Mem x (others l.moved ys) ⊎ Depends (xs ++ l ∷ ys) l x)
      × ((p : ℕ) → in_set (spread l.moved ys) p ≡ true → (y : LiveLine) × Mem y (xs ++ l ∷ ys) × Depends (xs ++ l ∷ ys) l y × (in_set y.moved p ≡ true))
  reached = reach (xs ++ l ∷ ys) l ys l.moved (up-part xs u).1 (λ y n. mem-aft xs (l ∷ ys) y (inr n)) (λ p e. (l, mem-mid l xs ys, itself, e, (up-part xs u).0))

  pub facts : Facts (xs ++ l ∷ ys) l (spread l.moved ys) (xs ++ others l.moved ys)
  facts = record {
    inside = reached.1;
    covers = λ p m d e. covers' p m (gone-all d (inl refl)) e;
    free = λ m h. (rest-mem l ys l.moved xs m h, λ d. clash m (mem-append xs (others l.moved ys) m h) (gone-all d (inl refl)));
    splits = λ m h. splits' m (mem-append xs (l ∷ ys) m h);
  }
    where
      covers' : (p : ℕ) (m : LiveLine) → Gone m → in_set m.moved p ≡ true → in_set (spread l.moved ys) p ≡ true
      covers' p m (inl q) e = spread-grows ys l.moved p (ap (λ (z : LiveLine). in_set z.moved p) (sym q) ∙ e)
      covers' p m (inr (i, g)) e = gone-inside ys l.moved m i g p e

      clash : (m : LiveLine) → Mem m xs ⊎ Mem m (others l.moved ys) → Gone m → ⊥
      clash m (inl n) g = let a = before-l xs u m n in let b = gone-low m g in let z : ⊥ = omega arith in z
      clash m (inr n) (inl q) = let a = (up-part xs u).0 m (others-mem ys l.moved m n) in let b : m.key.0 ≡ l.key.0 = ap (λ (z : LiveLine). z.key.0) q in let z : ⊥ = omega arith in z
      clash m (inr n) (inr g) = g.1 n

      splits' : (m : LiveLine) → Mem m xs ⊎ Mem m (l ∷ ys) → Mem m (xs ++ others l.moved ys) ⊎ Depends (xs ++ l ∷ ys) l m
      splits' m (inl n) = inl (mem-fore xs (others l.moved ys) m n)
      splits' m (inr (inl q)) = inr (rw q itself)
      splits' m (inr (inr n)) = elim (reached.0 m n) [ inl o ↦ inl (mem-aft xs (others l.moved ys) m o) | inr e ↦ inr e ]

module _ (k : Key) (l : LiveLine) (ys : List LiveLine) (e : l.key.0 ≡ k.0) where
  pub spread-split : (xs : List LiveLine) → Up (xs ++ l ∷ ys) → spread_of k (xs ++ l ∷ ys) ≡ spread l.moved ys
  spread-split [] u = rw (eq-eqb l.key.0 k.0 e)
  spread-split (x ∷ xs) u = let a = u.0 l (mem-mid l xs ys) in rw (ne_eqb x.key.0 k.0 (λ q. omega arith)) (spread-split xs u.1)

  pub remaining-split : (xs : List LiveLine) → Up (xs ++ l ∷ ys) → remaining k (xs ++ l ∷ ys) ≡ xs ++ others l.moved ys
  remaining-split [] u = rw (eq-eqb l.key.0 k.0 e)
  remaining-split (x ∷ xs) u = let a = u.0 l (mem-mid l xs ys) in rw (ne_eqb x.key.0 k.0 (λ q. omega arith), remaining-split xs u.1)
