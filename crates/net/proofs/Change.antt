-- The bonds after a firing (`bonds_seen`), and what they connect: the moved bases are those connected to an entry, as before
-- it. Assumes nothing.
use mathlib.Core.Path.{◌≡◌, refl, sym, ◌∙◌, ap}
use mathlib.Core.Logic.{◌⊎◌, inl, inr}
use mathlib.Core.Bool.{Bool, true, false, not, ◌&&◌, ◌||◌}
use mathlib.Core.List.{List}
use Prim.Native.Nat.{ℕ}
use Rattle.causal.specs.Lists.{Mem}
use Rattle.causal.proofs.Tests.{test, both}
use Rattle.net.specs.Tests.{keep}
use Rattle.net.specs.Net.{Arcs, Marking, Net, bond, same_bond, less_bond, has_bond}
use Rattle.net.specs.Connection.{bonded, here, along, connected}
use Rattle.net.specs.Marking.{Good}
use Rattle.net.specs.Firing.{moves, broken_bond, bonds_seen}
use Rattle.net.specs.declared.Bond.{Bond}
use Rattle.net.specs.declared.Entry.{Entry}
use Rattle.net.proofs.Tests.{same_test, fails, and_l, or-e, or_l, or_r, any-e, any-i}
use Rattle.net.proofs.Sorted.{has-puts, has-keep}
use Rattle.net.proofs.Bonds.{bond-order}
use Rattle.net.proofs.Connection.{leads-trans, connected-leads, leads-connected}
use Rattle.net.proofs.Moves.{Fit, entry-moves, closed, out-moves, moves-least}

pub has-after : (t : Arcs) (bs : List Bond) (b : Bond) → has_bond b (bonds_seen t bs) ≡ (has_bond b t.out_bonds || (has_bond b bs && not (broken_bond t b)))
has-after t bs b = has-puts same_bond less_bond bond-order b t.out_bonds (keep (λ (c : Bond). not (broken_bond t c)) bs)
    ∙ ap (λ (x : Bool). has_bond b t.out_bonds || x) (has-keep same_bond less_bond bond-order (λ (c : Bond). not (broken_bond t c)) b bs)

-- a bond after the firing is an out-bond, or one before it
pub after-e : (t : Arcs) (bs : List Bond) (b : Bond) → has_bond b (bonds_seen t bs) ≡ true → (has_bond b t.out_bonds ≡ true) ⊎ (has_bond b bs ≡ true)
after-e t bs b h = go (or-e (has_bond b t.out_bonds) (has_bond b bs && not (broken_bond t b)) (sym (has-after t bs b) ∙ h))
  where
    go : (has_bond b t.out_bonds ≡ true) ⊎ ((has_bond b bs && not (broken_bond t b)) ≡ true) → (has_bond b t.out_bonds ≡ true) ⊎ (has_bond b bs ≡ true)
    go (inl k) = inl k
    go (inr k) = inr (and_l (has_bond b bs) (not (broken_bond t b)) k)

-- a bond before the firing is one after it, or an in-bond
pub after-i : (t : Arcs) (bs : List Bond) (b : Bond) → has_bond b bs ≡ true → (has_bond b (bonds_seen t bs) ≡ true) ⊎ (has_bond b t.in_bonds ≡ true)
after-i t bs b k = test (broken_bond t b) (λ g. inr (and_l (has_bond b t.in_bonds) (not (has_bond b t.out_bonds)) g))
    (λ g. inl (has-after t bs b ∙ or_r (has_bond b t.out_bonds) (has_bond b bs && not (broken_bond t b)) (rw (k, g))))

module _ (net : Net) (s : Marking) (G : Good net s) (t : Arcs) (F : Fit net t) where
  -- one of the moved bases is bonded to moved bases alone, after the firing too
  pub ends-after : (b : Bond) → has_bond b (bonds_seen t s.bonds) ≡ true → moves s.bonds t.entries b.lo ≡ moves s.bonds t.entries b.hi
  ends-after b h = go (after-e t s.bonds b h)
    where
      go : (has_bond b t.out_bonds ≡ true) ⊎ (has_bond b s.bonds ≡ true) → moves s.bonds t.entries b.lo ≡ moves s.bonds t.entries b.hi
      go (inl k) = let (x, y) = out-moves net s G t F b k in x ∙ sym y
      go (inr k) = same_test (moves s.bonds t.entries b.lo) (moves s.bonds t.entries b.hi)
          (λ x. closed net s G t F b.lo b.hi x (or_l (has_bond b s.bonds) (has_bond (bond b.hi b.lo) s.bonds) k))
          (λ x. closed net s G t F b.hi b.lo x (or_r (has_bond (bond b.hi b.lo) s.bonds) (has_bond b s.bonds) k))

  pub closed_after : (p q : ℕ) → moves s.bonds t.entries p ≡ true → bonded (bonds_seen t s.bonds) p q ≡ true → moves s.bonds t.entries q ≡ true
  closed_after p q h a = go (or-e (has_bond (bond p q) (bonds_seen t s.bonds)) (has_bond (bond q p) (bonds_seen t s.bonds)) a)
    where
      go : (has_bond (bond p q) (bonds_seen t s.bonds) ≡ true) ⊎ (has_bond (bond q p) (bonds_seen t s.bonds) ≡ true) → moves s.bonds t.entries q ≡ true
      go (inl k) = sym (ends-after (bond p q) k) ∙ h
      go (inr k) = ends-after (bond q p) k ∙ h

  -- what is connected to an entry after the firing was so before it
  pub after-moves : (p : ℕ) → moves (bonds_seen t s.bonds) t.entries p ≡ true → moves s.bonds t.entries p ≡ true
  after-moves p h = moves-least (bonds_seen t s.bonds) t.entries (moves s.bonds t.entries) (entry-moves net s G t F) closed_after p h

  pub none_after : (p : ℕ) → moves s.bonds t.entries p ≡ false → moves (bonds_seen t s.bonds) t.entries p ≡ false
  none_after p h = fails (moves (bonds_seen t s.bonds) t.entries p) (λ k. both (moves s.bonds t.entries p) (after-moves p k) h)

  -- and the other way: where the chain to an entry breaks, there is an entry
  pub moves-after : (p : ℕ) → moves s.bonds t.entries p ≡ true → moves (bonds_seen t s.bonds) t.entries p ≡ true
  moves-after p h = moves-least s.bonds t.entries on base step p h
    where
      on : ℕ → Bool
      on = moves (bonds_seen t s.bonds) t.entries

      base : (e : Entry) → Mem e t.entries → on e.base ≡ true
      base e k = any-i (λ (d : Entry). connected (bonds_seen t s.bonds) d.base e.base) t.entries e k (leads-connected (bonds_seen t s.bonds) e.base e.base (here refl))

      onward : (x y : ℕ) → on x ≡ true → bonded (bonds_seen t s.bonds) x y ≡ true → on y ≡ true
      onward x y k a =
          let (e, m, c) = any-e (λ (d : Entry). connected (bonds_seen t s.bonds) d.base x) t.entries k in
          any-i (λ (d : Entry). connected (bonds_seen t s.bonds) d.base y) t.entries e m
          (leads-connected (bonds_seen t s.bonds) e.base y (leads-trans (connected-leads (bonds_seen t s.bonds) e.base x c) (along a (here refl))))

      first : (x y : ℕ) → on x ≡ true → (has_bond (bond x y) (bonds_seen t s.bonds) ≡ true) ⊎ (has_bond (bond x y) t.in_bonds ≡ true) → on y ≡ true
      first x y k (inl a) = onward x y k (or_l (has_bond (bond x y) (bonds_seen t s.bonds)) (has_bond (bond y x) (bonds_seen t s.bonds)) a)
      first x y k (inr a) = let (e, d, J, _) = F.ins (bond x y) a in rw (← J.hi) (base d J.second)

      second : (x y : ℕ) → on x ≡ true → (has_bond (bond y x) (bonds_seen t s.bonds) ≡ true) ⊎ (has_bond (bond y x) t.in_bonds ≡ true) → on y ≡ true
      second x y k (inl a) = onward x y k (or_r (has_bond (bond x y) (bonds_seen t s.bonds)) (has_bond (bond y x) (bonds_seen t s.bonds)) a)
      second x y k (inr a) = let (e, d, J, _) = F.ins (bond y x) a in rw (← J.lo) (base e J.first)

      pass : (x y : ℕ) → on x ≡ true → (has_bond (bond x y) s.bonds ≡ true) ⊎ (has_bond (bond y x) s.bonds ≡ true) → on y ≡ true
      pass x y k (inl a) = first x y k (after-i t s.bonds (bond x y) a)
      pass x y k (inr a) = second x y k (after-i t s.bonds (bond y x) a)

      step : (x y : ℕ) → on x ≡ true → bonded s.bonds x y ≡ true → on y ≡ true
      step x y k a = pass x y k (or-e (has_bond (bond x y) s.bonds) (has_bond (bond y x) s.bonds) a)

  -- so the moved bases can be told by the bonds after the firing too
  pub moves-same : (p : ℕ) → moves (bonds_seen t s.bonds) t.entries p ≡ moves s.bonds t.entries p
  moves-same p = same_test (moves (bonds_seen t s.bonds) t.entries p) (moves s.bonds t.entries p) (after-moves p) (moves-after p)
