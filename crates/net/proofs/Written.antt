-- The bonds that a net writes: those of the start and of each transition are among them.
-- Assumes nothing.
use mathlib.Core.Path.{◌≡◌, sym, ◌∙◌}
use mathlib.Core.Logic.{◌⊎◌, inl, inr}
use mathlib.Core.Bool.{true}
use mathlib.Core.List.{List, [], ◌∷◌, ◌++◌}
use Prim.Native.Nat.{ℕ, zero, suc, ◌<◌}
use native.Mathlib.Nat.{le_of_suc-le-suc, not-suc-le-zero}
use lib.ListN.{length, get_or}
use Rattle.causal.proofs.Lists.{mem-left, mem-right}
use Rattle.net.specs.Sorted.{puts}
use Rattle.net.specs.Net.{Arcs, Net, same_bond, less_bond, has_bond, no_arcs, arcs_of, arcs_bonds, all_bonds, written}
use Rattle.net.specs.declared.Bond.{Bond}
use Rattle.net.specs.declared.Transition.{Transition}
use Rattle.net.proofs.Tests.{or-e, or_l, or_r}
use Rattle.net.proofs.Sorted.{has-puts}
use Rattle.net.proofs.Bonds.{bond-order, has-mem, mem-has}

-- in the first of two lists, or in the second
pub has_left : (xs bs : List Bond) (b : Bond) → has_bond b xs ≡ true → has_bond b (xs ++ bs) ≡ true
has_left xs bs b h = mem-has (xs ++ bs) b (mem-left xs bs b (has-mem xs b h))

pub has_right : (xs bs : List Bond) (b : Bond) → has_bond b bs ≡ true → has_bond b (xs ++ bs) ≡ true
has_right xs bs b h = mem-has (xs ++ bs) b (mem-right xs bs b (has-mem bs b h))

pub has_either : (xs bs : List Bond) (b : Bond) → has_bond b (xs ++ bs) ≡ true → (has_bond b xs ≡ true) ⊎ (has_bond b bs ≡ true)
has_either [] bs b h = inr h
has_either (x ∷ xs) bs b h = elim (or-e (same_bond b x) (has_bond b (xs ++ bs)) h) [ inl e ↦ inl (or_l (same_bond b x) (has_bond b xs) e) | inr e ↦ on (has_either xs bs b e) ]
  where
    on : (has_bond b xs ≡ true) ⊎ (has_bond b bs ≡ true) → (has_bond b (x ∷ xs) ≡ true) ⊎ (has_bond b bs ≡ true)
    on (inl k) = inl (or_r (same_bond b x) (has_bond b xs) k)
    on (inr k) = inr k

-- among bonds with others put in
pub puts-left : (cs bs : List Bond) (b : Bond) → has_bond b cs ≡ true → has_bond b (puts same_bond less_bond cs bs) ≡ true
puts-left cs bs b h = has-puts same_bond less_bond bond-order b cs bs ∙ or_l (has_bond b cs) (has_bond b bs) h

pub puts-right : (cs bs : List Bond) (b : Bond) → has_bond b bs ≡ true → has_bond b (puts same_bond less_bond cs bs) ≡ true
puts-right cs bs b h = has-puts same_bond less_bond bond-order b cs bs ∙ or_r (has_bond b cs) (has_bond b bs) h

pub puts-among : (cs bs ds : List Bond) → ((b : Bond) → has_bond b cs ≡ true → has_bond b ds ≡ true) → ((b : Bond) → has_bond b bs ≡ true → has_bond b ds ≡ true)
    → (b : Bond) → has_bond b (puts same_bond less_bond cs bs) ≡ true → has_bond b ds ≡ true
puts-among cs bs ds f g b h = go (or-e (has_bond b cs) (has_bond b bs) (sym (has-puts same_bond less_bond bond-order b cs bs) ∙ h))
  where
    go : (has_bond b cs ≡ true) ⊎ (has_bond b bs ≡ true) → has_bond b ds ≡ true
    go (inl k) = f b k
    go (inr k) = g b k

nth-bonds : (ts : List Arcs) (i : ℕ) (b : Bond) → i < length ts → has_bond b (arcs_bonds (get_or ts i no_arcs)) ≡ true → has_bond b (all_bonds ts) ≡ true
nth-bonds [] i b h k = absurd (not-suc-le-zero h)
nth-bonds (t ∷ ts) zero b h k = has_left (arcs_bonds t) (all_bonds ts) b k
nth-bonds (t ∷ ts) (suc i) b h k = has_right (arcs_bonds t) (all_bonds ts) b (nth-bonds ts i b (le_of_suc-le-suc h) k)

pub start-written : (net : Net) (b : Bond) → has_bond b net.start.bonds ≡ true → has_bond b (written net) ≡ true
start-written net b h = has_left net.start.bonds (all_bonds net.transitions) b h

pub arcs-written : (net : Net) (t : Transition) (b : Bond) → t.0 < length net.transitions → has_bond b (arcs_bonds (arcs_of net t)) ≡ true → has_bond b (written net) ≡ true
arcs-written net t b h k = has_right net.start.bonds (all_bonds net.transitions) b (nth-bonds net.transitions t.0 b h k)
