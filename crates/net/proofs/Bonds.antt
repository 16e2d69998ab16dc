-- Laws of bonds: their order as pairs, and membership in a list of them.
-- Assumes nothing.
use mathlib.Core.Path.{◌≡◌, refl}
use mathlib.Core.Logic.{◌⊎◌, inl, inr}
use mathlib.Core.Bool.{true, false, ◌&&◌}
use mathlib.Core.List.{List, [], ◌∷◌}
use Prim.Native.Nat.{◌<◌, ◌≤◌}
use native.Mathlib.Omega.{arith}
use lib.Dec.{eqb, ltb}
use borrow.Author.Tests.{eqb-true, eqb-false, ltb-true, ltb-false, lt-ltb, eq-eqb}
use Rattle.causal.specs.Lists.{Mem}
use Rattle.causal.proofs.Tests.{test, both}
use Rattle.net.specs.Net.{same_bond, less_bond, has_bond}
use Rattle.net.specs.declared.Bond.{Bond}
use Rattle.net.proofs.Tests.{fails, and_l, and_r, and_i, or-e, or_l, or_r, or-no-l, or-no-r}
use Rattle.net.proofs.Sorted.{Order}

pub bond-eq : (b c : Bond) → same_bond b c ≡ true → b ≡ c
bond-eq b c e =
    let p : b.lo ≡ c.lo = eqb-true b.lo c.lo (and_l (eqb b.lo c.lo) (eqb b.hi c.hi) e) in
    let q : b.hi ≡ c.hi = eqb-true b.hi c.hi (and_r (eqb b.lo c.lo) (eqb b.hi c.hi) e) in
    λ i. record { lo = p i; hi = q i }

pub eq-bond : (b : Bond) → same_bond b b ≡ true
eq-bond b = rw (eq-eqb b.lo b.lo refl, eq-eqb b.hi b.hi refl)

less-e : (b c : Bond) → less_bond b c ≡ true → (b.lo < c.lo) ⊎ ((b.lo ≡ c.lo) × (b.hi < c.hi))
less-e b c e = go (or-e (ltb b.lo c.lo) (eqb b.lo c.lo && ltb b.hi c.hi) e)
  where
    go : (ltb b.lo c.lo ≡ true) ⊎ ((eqb b.lo c.lo && ltb b.hi c.hi) ≡ true) → (b.lo < c.lo) ⊎ ((b.lo ≡ c.lo) × (b.hi < c.hi))
    go (inl h) = inl (ltb-true b.lo c.lo h)
    go (inr h) = inr (eqb-true b.lo c.lo (and_l (eqb b.lo c.lo) (ltb b.hi c.hi) h), ltb-true b.hi c.hi (and_r (eqb b.lo c.lo) (ltb b.hi c.hi) h))

less-i : (b c : Bond) → (b.lo < c.lo) ⊎ ((b.lo ≡ c.lo) × (b.hi < c.hi)) → less_bond b c ≡ true
less-i b c (inl h) = or_l (ltb b.lo c.lo) (eqb b.lo c.lo && ltb b.hi c.hi) (lt-ltb b.lo c.lo h)
less-i b c (inr h) = or_r (ltb b.lo c.lo) (eqb b.lo c.lo && ltb b.hi c.hi)
    (and_i (eqb b.lo c.lo) (ltb b.hi c.hi) (eq-eqb b.lo c.lo h.0) (lt-ltb b.hi c.hi h.1))

pub bond-order : Order same_bond less_bond
bond-order = record {
  eq-same = eq-bond;
  same-eq = bond-eq;
  irrefl = λ b. fails (less_bond b b) (λ e. no_less b (less-e b b e));
  trans = λ b c d h k. less-i b d (chain b c d (less-e b c h) (less-e c d k));
  tri = λ b c h k. less-i c b (turn b c h k);
}
  where
    no_less : (b : Bond) → (b.lo < b.lo) ⊎ ((b.lo ≡ b.lo) × (b.hi < b.hi)) → ⊥
    no_less b (inl h) = omega arith
    no_less b (inr h) = omega arith

    chain : (b c d : Bond) → (b.lo < c.lo) ⊎ ((b.lo ≡ c.lo) × (b.hi < c.hi)) → (c.lo < d.lo) ⊎ ((c.lo ≡ d.lo) × (c.hi < d.hi))
        → (b.lo < d.lo) ⊎ ((b.lo ≡ d.lo) × (b.hi < d.hi))
    chain b c d (inl h) (inl k) = inl (omega arith)
    chain b c d (inl h) (inr k) = inl (omega arith)
    chain b c d (inr h) (inl k) = inl (omega arith)
    chain b c d (inr h) (inr k) = inr (omega arith)

    turn : (b c : Bond) → less_bond b c ≡ false → same_bond b c ≡ false → (c.lo < b.lo) ⊎ ((c.lo ≡ b.lo) × (c.hi < b.hi))
    turn b c h k = test (ltb c.lo b.lo) (λ e. inl (ltb-true c.lo b.lo e)) (λ e.
        let le : b.lo ≤ c.lo = ltb-false c.lo b.lo e in
        let ge : c.lo ≤ b.lo = ltb-false b.lo c.lo (or-no-l (ltb b.lo c.lo) (eqb b.lo c.lo && ltb b.hi c.hi) h) in
        let same : b.lo ≡ c.lo = omega arith in
        let t : eqb b.lo c.lo ≡ true = eq-eqb b.lo c.lo same in
        let up : c.hi ≤ b.hi = ltb-false b.hi c.hi (rw t at (or-no-r (ltb b.lo c.lo) (eqb b.lo c.lo && ltb b.hi c.hi) h)) in
        let ne : b.hi ≡ c.hi → ⊥ = eqb-false b.hi c.hi (rw t at k) in
        inr (omega arith))

pub has-mem : (bs : List Bond) (b : Bond) → has_bond b bs ≡ true → Mem b bs
has-mem [] b h = both false h refl
has-mem (c ∷ bs) b h = elim (or-e (same_bond b c) (has_bond b bs) h) [ inl e ↦ inl (bond-eq b c e) | inr e ↦ inr (has-mem bs b e) ]

pub mem-has : (bs : List Bond) (b : Bond) → Mem b bs → has_bond b bs ≡ true
mem-has [] b h = absurd h
mem-has (c ∷ bs) b (inl e) = or_l (same_bond b c) (has_bond b bs) (rw e (eq-bond c))
mem-has (c ∷ bs) b (inr h) = or_r (same_bond b c) (has_bond b bs) (mem-has bs b h)
