-- What firing and taking back share, however bonds change: the moved bases, and what is seen at a base.
-- Assumes nothing.
use mathlib.Core.Path.{◌≡◌, refl, sym, ◌∙◌, ap}
use mathlib.Core.Logic.{◌⊎◌, inl, inr}
use mathlib.Core.Bool.{Bool, true, false, ◌||◌}
use mathlib.Core.List.{List, [], ◌∷◌}
use Prim.Native.Nat.{ℕ, ◌<◌}
use native.Mathlib.Omega.{arith}
use Rattle.causal.specs.Lists.{Mem}
use Rattle.causal.proofs.Tests.{both}
use Rattle.net.specs.Tests.{pick}
use Rattle.net.specs.Sorted.{Ascending}
use Rattle.net.specs.Net.{Arcs, Marking, Net, bond, same_bond, less_bond, has_bond, place, arcs_bonds, written}
use Rattle.net.specs.Connection.{bonded, Leads, here, along, connected}
use Rattle.net.specs.Marking.{Good}
use Rattle.net.specs.Firing.{in_set, moves, sent, moved}
use Rattle.net.specs.declared.Bond.{Bond}
use Rattle.net.specs.declared.Entry.{Entry}
use Rattle.net.proofs.Tests.{pick-case, fails, or-e, or-no-l, or-no-r, any-e, any-i}
use Rattle.net.proofs.Tables.{get_d-table-all}
use Rattle.net.proofs.Connection.{leads-trans, connected-leads, leads-connected}

-- ---- where an entry sends a base

pub sent-cong : (f : Entry → ℕ) (bs cs : List Bond) (es : List Entry) (p q u v : ℕ) → ((e : Entry) → Mem e es → connected bs e.base p ≡ connected cs e.base q) → u ≡ v
    → sent f bs es p u ≡ sent f cs es q v
sent-cong f bs cs [] p q u v h e = e
sent-cong f bs cs (x ∷ es) p q u v h e = rw (h x (inl refl), sent-cong f bs cs es p q u v (λ d m. h d (inr m)) e)

pub sent-none : (f : Entry → ℕ) (bs : List Bond) (es : List Entry) (p old : ℕ) → moves bs es p ≡ false → sent f bs es p old ≡ old
sent-none f bs [] p old h = refl
sent-none f bs (e ∷ es) p old h =
    rw (or-no-l (connected bs e.base p) (moves bs es p) h) (sent-none f bs es p old (or-no-r (connected bs e.base p) (moves bs es p) h))

pub sent_is : (f : Entry → ℕ) (bs : List Bond) (es : List Entry) (p old v : ℕ) → moves bs es p ≡ true → ((e : Entry) → Mem e es → connected bs e.base p ≡ true → f e ≡ v)
    → sent f bs es p old ≡ v
sent_is f bs [] p old v h k = both false h refl
sent_is f bs (e ∷ es) p old v h k = go (connected bs e.base p) refl h (λ a. sent_is f bs es p old v a (λ d m. k d (inr m)))
  where
    go : (c : Bool) → connected bs e.base p ≡ c → (c || moves bs es p) ≡ true → (moves bs es p ≡ true → sent f bs es p old ≡ v) → pick c (f e) (sent f bs es p old) ≡ v
    go true a b ih = k e (inl refl) a
    go false a b ih = ih b

-- where p and q are connected to the same entries, and to one at least, they go to one place
pub sent-on : (f : Entry → ℕ) (bs : List Bond) (es : List Entry) (p q u v : ℕ) → moves bs es p ≡ true → ((e : Entry) → connected bs e.base p ≡ connected bs e.base q)
    → sent f bs es p u ≡ sent f bs es q v
sent-on f bs [] p q u v h k = both false h refl
sent-on f bs (e ∷ es) p q u v h k = go (connected bs e.base p) (k e) h (λ a. sent-on f bs es p q u v a k)
  where
    go : (c : Bool) → c ≡ connected bs e.base q → (c || moves bs es p) ≡ true → (moves bs es p ≡ true → sent f bs es p u ≡ sent f bs es q v)
        → pick c (f e) (sent f bs es p u) ≡ pick (connected bs e.base q) (f e) (sent f bs es q v)
    go true a b ih = rw (← a)
    go false a b ih = rw (← a) (ih b)

-- p goes to a place that is there, if each entry has such a place and p's old one is such
pub sent-below : (f : Entry → ℕ) (bs : List Bond) (es : List Entry) (p old k : ℕ) → ((e : Entry) → Mem e es → f e < k) → old < k → sent f bs es p old < k
sent-below f bs [] p old k h o = o
sent-below f bs (e ∷ es) p old k h o = pick-case (λ (x : ℕ). x < k) (connected bs e.base p) _ _ (λ c. h e (inl refl)) (λ c. sent-below f bs es p old k (λ d m. h d (inr m)) o)

-- ---- what the rules give of a transition

-- The bond joins the bases of two entries.
pub record Joins (t : Arcs) (b : Bond) (e d : Entry) : Type 0 where
  pub first : Mem e t.entries
  pub second : Mem d t.entries
  pub lo : e.base ≡ b.lo
  pub hi : d.base ≡ b.hi

-- What the rules give of a transition's arcs.
pub record Fit (net : Net) (t : Arcs) : Type 0 where
  pub bases : (e : Entry) → Mem e t.entries → e.base < net.bases
  pub from : (e : Entry) → Mem e t.entries → e.from < net.places
  pub to : (e : Entry) → Mem e t.entries → e.to < net.places
  pub ins : (b : Bond) → has_bond b t.in_bonds ≡ true → (e : Entry) × (d : Entry) × Joins t b e d × (e.from ≡ d.from)
  pub low_in : (b : Bond) → has_bond b t.in_bonds ≡ true → b.lo < b.hi
  pub rising_in : Ascending same_bond less_bond t.in_bonds
  pub outs : (b : Bond) → has_bond b t.out_bonds ≡ true → (e : Entry) × (d : Entry) × Joins t b e d × (e.to ≡ d.to)
  pub low : (b : Bond) → has_bond b t.out_bonds ≡ true → b.lo < b.hi
  pub rising : Ascending same_bond less_bond t.out_bonds
  pub listed : (b : Bond) → has_bond b (arcs_bonds t) ≡ true → has_bond b (written net) ≡ true

-- What is seen at a base: its place, and its bonds.
abbrev pub Seen : Type 0
Seen = ℕ × (ℕ → Bool) × (ℕ → Bool)

abbrev pub view : Marking → ℕ → Seen
view s p = (place s p, (λ q. has_bond (bond p q) s.bonds), λ q. has_bond (bond q p) s.bonds)

pub see : (s z : Marking) (p : ℕ) → place s p ≡ place z p → ((q : ℕ) → has_bond (bond p q) s.bonds ≡ has_bond (bond p q) z.bonds)
    → ((q : ℕ) → has_bond (bond q p) s.bonds ≡ has_bond (bond q p) z.bonds) → view s p ≡ view z p
see s z p e f g = λ i. (e i, (λ q. f q i), λ q. g q i)

module _ (s z : Marking) (p : ℕ) (e : view s p ≡ view z p) where
  pub seen-place : place s p ≡ place z p
  seen-place = ap (λ (w : Seen). w.0) e

  pub seen_first : (q : ℕ) → has_bond (bond p q) s.bonds ≡ has_bond (bond p q) z.bonds
  seen_first q = ap (λ (w : Seen). w.1 q) e

  pub seen-second : (q : ℕ) → has_bond (bond q p) s.bonds ≡ has_bond (bond q p) z.bonds
  seen-second q = ap (λ (w : Seen). w.2 q) e

  pub seen-bonded : (q : ℕ) → bonded s.bonds p q ≡ bonded z.bonds p q
  seen-bonded q = rw (seen_first q, seen-second q)

-- ---- the moved bases are closed

module _ (net : Net) (s : Marking) (G : Good net s) (t : Arcs) (F : Fit net t) where
  pub entry-moves : (e : Entry) → Mem e t.entries → moves s.bonds t.entries e.base ≡ true
  entry-moves e h = any-i (λ (d : Entry). connected s.bonds d.base e.base) t.entries e h (leads-connected s.bonds e.base e.base (here refl))

  pub closed : (p q : ℕ) → moves s.bonds t.entries p ≡ true → bonded s.bonds p q ≡ true → moves s.bonds t.entries q ≡ true
  closed p q h a =
      let (e, k, c) = any-e (λ (d : Entry). connected s.bonds d.base p) t.entries h in
      any-i (λ (d : Entry). connected s.bonds d.base q) t.entries e k
      (leads-connected s.bonds e.base q (leads-trans (connected-leads s.bonds e.base p c) (along a (here refl))))

  pub bonded-range : (p q : ℕ) → bonded s.bonds p q ≡ true → q < net.bases
  bonded-range p q a = go (or-e (has_bond (bond p q) s.bonds) (has_bond (bond q p) s.bonds) a)
    where
      go : (has_bond (bond p q) s.bonds ≡ true) ⊎ (has_bond (bond q p) s.bonds ≡ true) → q < net.bases
      go (inl h) = (G.range (bond p q) h).1
      go (inr h) = let r = G.range (bond q p) h in omega arith

  pub leads-range : {p q : ℕ} → Leads s.bonds p q → p < net.bases → q < net.bases
  leads-range (here e) h = rw e at h
  leads-range (along {p = p} {r = r} a l) h = leads-range l (bonded-range p r a)

  pub moves-range : (p : ℕ) → moves s.bonds t.entries p ≡ true → p < net.bases
  moves-range p h =
      let (e, k, c) = any-e (λ (d : Entry). connected s.bonds d.base p) t.entries h in
      leads-range (connected-leads s.bonds e.base p c) (F.bases e k)

  pub mem-moved : (p : ℕ) → in_set (moved net.bases t s) p ≡ moves s.bonds t.entries p
  mem-moved p = get_d-table-all net.bases (moves s.bonds t.entries) false p (λ h. fails (moves s.bonds t.entries p) (λ k. let l = moves-range p k in omega arith))

  -- a base of a step's bond is moved
  pub joins-moves : (b : Bond) (e d : Entry) → Joins t b e d → (moves s.bonds t.entries b.lo ≡ true) × (moves s.bonds t.entries b.hi ≡ true)
  joins-moves b e d J = (rw (← J.lo) (entry-moves e J.first), rw (← J.hi) (entry-moves d J.second))

  pub out-moves : (b : Bond) → has_bond b t.out_bonds ≡ true → (moves s.bonds t.entries b.lo ≡ true) × (moves s.bonds t.entries b.hi ≡ true)
  out-moves b h = let (e, d, J, _) = F.outs b h in joins-moves b e d J

  pub in-moves : (b : Bond) → has_bond b t.in_bonds ≡ true → (moves s.bonds t.entries b.lo ≡ true) × (moves s.bonds t.entries b.hi ≡ true)
  in-moves b h = let (e, d, J, _) = F.ins b h in joins-moves b e d J

  -- connected bases share a place
  pub leads-share : {p q : ℕ} → Leads s.bonds p q → place s p ≡ place s q
  leads-share (here e) = ap (place s) e
  leads-share (along {p = p} {r = r} a l) = go (or-e (has_bond (bond p r) s.bonds) (has_bond (bond r p) s.bonds) a) ∙ leads-share l
    where
      go : (has_bond (bond p r) s.bonds ≡ true) ⊎ (has_bond (bond r p) s.bonds ≡ true) → place s p ≡ place s r
      go (inl h) = G.share (bond p r) h
      go (inr h) = sym (G.share (bond r p) h)

-- the bases connected to an entry are the least closed set that has the entries' bases
pub moves-least : (bs : List Bond) (es : List Entry) (m : ℕ → Bool) → ((e : Entry) → Mem e es → m e.base ≡ true) → ((p q : ℕ) → m p ≡ true → bonded bs p q ≡ true → m q ≡ true)
    → (p : ℕ) → moves bs es p ≡ true → m p ≡ true
moves-least bs es m base step p h =
    let (e, k, c) = any-e (λ (d : Entry). connected bs d.base p) es h in
    follow (connected-leads bs e.base p c) (base e k)
  where
    follow : {p q : ℕ} → Leads bs p q → m p ≡ true → m q ≡ true
    follow (here e) h = rw e at h
    follow (along {p = p} {r = r} a l) h = follow l (step p r h a)
