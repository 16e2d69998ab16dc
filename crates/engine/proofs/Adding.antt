-- Bonds of a transition go in one after the other, from the last to the first, those that are to; there is always room.
-- Assumes nothing.
use mathlib.Core.Path.{◌≡◌, refl, sym, ◌∙◌, ap, subst}
use mathlib.Core.Logic.{◌⊎◌, inl, inr}
use mathlib.Core.Bool.{Bool, true, false}
use mathlib.Core.List.{List, [], ◌∷◌}
use Prim.Native.Nat.{ℕ, zero, suc, ◌-◌, ◌<◌, ◌≤◌}
use native.Mathlib.Nat.{le_trans}
use native.Mathlib.Omega.{arith}
use lib.ListN.{length, drop, drop_of_length-le}
use Rattle.net.specs.Limits.{max_bonds}
use Rattle.net.specs.Tests.{keep, table}
use Rattle.net.specs.Sorted.{Ascending, put, puts}
use Rattle.net.specs.Net.{same_bond, less_bond, has_bond}
use Rattle.net.specs.declared.Bond.{Bond}
use Rattle.net.proofs.Tests.{and_l, or-e, or_r}
use Rattle.net.proofs.Tables.{length-table}
use Rattle.net.proofs.Sorted.{has-put, has-keep, ascending-put, ascending-puts}
use Rattle.net.proofs.Bonds.{bond-order}
use Rattle.net.proofs.Written.{puts-left, puts-right, puts-among}
use Rattle.net.proofs.Pairs.{few-among}
use Rattle.bonds.proofs.Fill.{drop-back}
use Rattle.marking.specs.declared.Marking.{Marking}
use Rattle.marking.specs.Form.{bonds_of, with_bonds, InOrder}
use Rattle.marking.proofs.Forms.{bonds-with, in-order-with}

has-drop : (b : Bond) (L : ℕ) (l : List Bond) → has_bond b (drop L l) ≡ true → has_bond b l ≡ true
has-drop b zero l h = h
has-drop b (suc L) [] h = h
has-drop b (suc L) (c ∷ l) h = or_r (same_bond b c) (has_bond b l) (has-drop b L l h)

module _ (m : Marking) (I : InOrder m) (k : ℕ) (f : ℕ → Bond) (room : length (puts same_bond less_bond (table k f) (bonds_of m)) ≤ max_bonds) (g : Bond → Bool) where
  -- the bonds once all are in
  abbrev whole : List Bond
  whole = puts same_bond less_bond (table k f) (bonds_of m)

  -- the bonds where those from L on are in
  abbrev pub held : ℕ → List Bond
  held L = puts same_bond less_bond (keep g (drop L (table k f))) (bonds_of m)

  held-order : (L : ℕ) → Ascending same_bond less_bond (held L)
  held-order L = ascending-puts same_bond less_bond bond-order (keep g (drop L (table k f))) (bonds_of m) I.order

  held-among : (L : ℕ) (b : Bond) → has_bond b (held L) ≡ true → has_bond b whole ≡ true
  held-among L = puts-among (keep g (drop L (table k f))) (bonds_of m) whole
      (λ b e. puts-left (table k f) (bonds_of m) b (has-drop b L (table k f) (and_l (has_bond b (drop L (table k f))) (g b) (sym (has-keep same_bond less_bond bond-order g b (drop L (table k f))) ∙ e))))
      (puts-right (table k f) (bonds_of m))

  fit : (bs : List Bond) → Ascending same_bond less_bond bs → ((b : Bond) → has_bond b bs ≡ true → has_bond b whole ≡ true) → length bs ≤ max_bonds
  fit bs o h = le_trans (few-among bs whole o h) room

  held-room : (L : ℕ) → length (held L) ≤ max_bonds
  held-room L = fit (held L) (held-order L) (held-among L)

  pub held_none : (L : ℕ) → L ≡ k → m ≡ with_bonds m (held L)
  held_none L e =
      let s : length (table k f) ≤ L = rw (length-table k f) (omega arith) in
      I.form ∙ ap (λ (bs : List Bond). with_bonds m (puts same_bond less_bond (keep g bs) (bonds_of m))) (sym (drop_of_length-le (table k f) s))

  pub held_all : (L : ℕ) (h : Marking) → L ≡ 0 → h ≡ with_bonds m (held L) → h ≡ with_bonds m (puts same_bond less_bond (keep g (table k f)) (bonds_of m))
  held_all L h e q = q ∙ ap (λ (j : ℕ). with_bonds m (held j)) e

  module _ (L : ℕ) (pos : 0 < L) (le : L ≤ k) (h : Marking) (q : h ≡ with_bonds m (held L)) (b : Bond) (e : b ≡ f (L - 1)) where
    bonds-held : bonds_of h ≡ held L
    bonds-held = ap bonds_of q ∙ bonds-with m (held L)

    -- the bond is one of the transition's
    mine : has_bond b whole ≡ true
    mine = puts-left (table k f) (bonds_of m) b (has-drop b (L - 1) (table k f) (ap (has_bond b) (drop-back k L f pos le) ∙ ap (λ (c : Bond). has_bond b (c ∷ drop L (table k f))) (sym e) ∙ rw (bond-order.eq-same b)))

    -- what putting the next one in asks, and what it gives
    pub add-asks : InOrder h × (length (put same_bond less_bond b (bonds_of h)) ≤ max_bonds)
    add-asks = (subst InOrder (sym q) (in-order-with m (held L) (held-room L) (held-order L)), rw bonds-held (fit (put same_bond less_bond b (held L)) (ascending-put same_bond less_bond bond-order b (held L) (held-order L)) one))
      where
        one : (c : Bond) → has_bond c (put same_bond less_bond b (held L)) ≡ true → has_bond c whole ≡ true
        one c w = go (or-e (same_bond c b) (has_bond c (held L)) (sym (has-put same_bond less_bond bond-order c b (held L)) ∙ w))
          where
            go : (same_bond c b ≡ true) ⊎ (has_bond c (held L) ≡ true) → has_bond c whole ≡ true
            go (inl d) = ap (λ (x : Bond). has_bond x whole) (bond-order.same-eq c b d) ∙ mine
            go (inr d) = held-among L c d

    next : puts same_bond less_bond (keep g (b ∷ [])) (held L) ≡ held (L - 1)
    next = go (g b) refl ∙ ap (λ (c : Bond). puts same_bond less_bond (keep g (c ∷ drop L (table k f))) (bonds_of m)) e ∙ ap (λ (bs : List Bond). puts same_bond less_bond (keep g bs) (bonds_of m)) (sym (drop-back k L f pos le))
      where
        go : (x : Bool) → g b ≡ x → puts same_bond less_bond (keep g (b ∷ [])) (held L) ≡ puts same_bond less_bond (keep g (b ∷ drop L (table k f))) (bonds_of m)
        go true w = rw w refl
        go false w = rw w refl

    pub add-gives : (r : Marking) → r ≡ with_bonds h (puts same_bond less_bond (keep g (b ∷ [])) (bonds_of h)) → r ≡ with_bonds m (held (L - 1))
    add-gives r w = w ∙ ap (λ (bs : List Bond). with_bonds h (puts same_bond less_bond (keep g (b ∷ [])) bs)) bonds-held ∙ ap (with_bonds h) next ∙ ap (λ (z : Marking). with_bonds z (held (L - 1))) q
