-- Taking out the bonds of one side of a transition, one after the other, keeps the others and what is on the other side too.
-- Assumes nothing.
use mathlib.Core.Path.{◌≡◌, refl, sym, ◌∙◌, ap, subst}
use mathlib.Core.Bool.{Bool, true, false, not, ◌&&◌, ◌||◌}
use mathlib.Core.List.{List, [], ◌∷◌}
use Prim.Native.Nat.{ℕ, ◌+◌, ◌≤◌}
use native.Mathlib.Omega.{arith}
use lib.ListN.{length}
use Rattle.net.specs.Limits.{max_bonds}
use Rattle.net.specs.Tests.{pick, keep, table}
use Rattle.net.specs.Net.{same_bond, less_bond, has_bond}
use Rattle.net.specs.declared.Bond.{Bond}
use Rattle.net.proofs.Tests.{keep-cong, keep-yes, keep-keep}
use Rattle.net.proofs.Tables.{length-table}
use Rattle.net.proofs.Sorted.{ascending-keep}
use Rattle.net.proofs.Bonds.{bond-order, bond-eq}
use Rattle.bonds.specs.Ends.{ends}
use Rattle.bonds.proofs.Fill.{has_more}
use Rattle.marking.specs.declared.Marking.{Marking}
use Rattle.marking.specs.Form.{bonds_of, with_bonds, InOrder}
use Rattle.marking.proofs.Forms.{bonds-with, in-order-with}
use Rattle.engine.specs.Change.{stays}

-- ---- `keep`

keep-length : {X : Type 0} (f : X → Bool) (l : List X) → length (keep f l) ≤ length l
keep-length f [] = omega arith
keep-length f (x ∷ l) = go (f x) (keep-length f l)
  where
    go : (a : Bool) → length (keep f l) ≤ length l → length (pick a (x ∷ keep f l) (keep f l)) ≤ length (x ∷ l)
    go true h = omega arith
    go false h = omega arith

-- ---- one bond

module _ (others : List Bond) (b : Bond) where
  same_in : (c : Bond) → same_bond c b ≡ true → has_bond c others ≡ has_bond b others
  same_in c e = ap (λ (d : Bond). has_bond d others) (bond-eq c b e)

  -- one of the others is not taken out
  pub stays-in : (l : List Bond) → has_bond b others ≡ true → keep (stays others b) l ≡ l
  stays-in l h = keep-cong (stays others b) (λ c. true) l (λ c _. go c (same_bond c b) refl) ∙ keep-yes l
    where
      go : (c : Bond) (x : Bool) → same_bond c b ≡ x → not (x && not (has_bond c others)) ≡ true
      go c true e = rw (same_in c e, h)
      go c false e = refl

  pub stays_out : (l : List Bond) → has_bond b others ≡ false → keep (stays others b) l ≡ keep (λ (c : Bond). not (same_bond c b)) l
  stays_out l h = keep-cong (stays others b) (λ (c : Bond). not (same_bond c b)) l (λ c _. go c (same_bond c b) refl)
    where
      go : (c : Bond) (x : Bool) → same_bond c b ≡ x → not (x && not (has_bond c others)) ≡ not x
      go c true e = rw (same_in c e, h)
      go c false e = refl

-- ---- one after the other

both-stay : (a b i : Bool) → (not (a && not i) && not (b && not i)) ≡ not ((a || b) && not i)
both-stay true true true = refl
both-stay true true false = refl
both-stay true false true = refl
both-stay true false false = refl
both-stay false b i = refl

module _ (others : List Bond) (m : Marking) (I : InOrder m) (f : ℕ → Bond) where
  -- the bonds where the first i are out
  abbrev pub left : ℕ → List Bond
  left i = keep (λ (c : Bond). not (has_bond c (table i f) && not (has_bond c others))) (bonds_of m)

  pub left-all : m ≡ with_bonds m (left 0)
  left-all = I.form ∙ ap (with_bonds m) (sym (keep-yes (bonds_of m)))

  left-room : (i : ℕ) → length (left i) ≤ max_bonds
  left-room i =
      let a = keep-length (λ (c : Bond). not (has_bond c (table i f) && not (has_bond c others))) (bonds_of m) in
      let b = length-table m.count (ends m.lo m.hi) in
      let r = I.room in
      omega arith

  left-order : (i : ℕ) → InOrder (with_bonds m (left i))
  left-order i = in-order-with m (left i) (left-room i)
      (ascending-keep same_bond less_bond bond-order (λ (c : Bond). not (has_bond c (table i f) && not (has_bond c others))) (bonds_of m) I.order)

  left-more : (i : ℕ) → keep (stays others (f i)) (left i) ≡ left (i + 1)
  left-more i = keep-keep (λ (c : Bond). not (has_bond c (table i f) && not (has_bond c others))) (stays others (f i)) (bonds_of m)
      ∙ keep-cong (λ (c : Bond). not (has_bond c (table i f) && not (has_bond c others)) && stays others (f i) c) (λ (c : Bond). not (has_bond c (table (i + 1) f) && not (has_bond c others))) (bonds_of m)
      (λ c _. both-stay (has_bond c (table i f)) (same_bond c (f i)) (has_bond c others) ∙ ap (λ (x : Bool). not (x && not (has_bond c others))) (sym (has_more same_bond c i f)))

  module _ (i : ℕ) (h : Marking) (q : h ≡ with_bonds m (left i)) where
    pub take-asks : InOrder h
    take-asks = subst InOrder (sym q) (left-order i)

    pub take_gives : (b : Bond) → b ≡ f i → (r : Marking) → r ≡ with_bonds h (keep (stays others b) (bonds_of h)) → r ≡ with_bonds m (left (i + 1))
    take_gives b e r w = w ∙ ap (λ (z : Marking). with_bonds z (keep (stays others b) (bonds_of z))) q
        ∙ ap (λ (bs : List Bond). with_bonds m (keep (stays others b) bs)) (bonds-with m (left i))
        ∙ ap (λ (c : Bond). with_bonds m (keep (stays others c) (left i))) e ∙ ap (with_bonds m) (left-more i)
