-- Steps that break bonds: Definitions 20 to 22 and 24 (004, section 4.1), as far as the customer follows them (02, T-07).
-- Definitions only. Definitions 23, 25 and 26 are 6, 11 and 12, and the histories of 22 and 24 those of 5 and 7.
use Rattle.std.specs.Prelude.{◌≡◌, ℕ}
use Rattle.net.specs.declared.Bond.{Bond}
use Rattle.net.specs.declared.Transition.{Transition}
use Rattle.published.specs.Sets.{Iff, Item, base, bond, Items, union, minus}
use Rattle.published.specs.Nets.{PetriNet, Incoming, Outgoing, Pre, Post}
use Rattle.published.specs.States.{Marks, Con}
use Rattle.published.specs.Forward.{leaves}
use Rattle.published.specs.Backtracking.{leaves_back}

-- Definition 20: well-formed, where steps may break bonds. It is Definition 3 without 3(2): (1) the bases taken are the bases
-- put; (2) nothing is put in two places.
pub record WellFormed20 (N : PetriNet) : Type 0 where
  -- (1)
  pub same_bases : (t : Transition) (a : ℕ) → N.is_transition t → Iff (Pre N t (base a)) (Post N t (base a))
  -- (2)
  pub once_put : (t : Transition) (x y : ℕ) (i : Item) → N.is_transition t → N.is_place x → N.is_place y → (x ≡ y → ⊥) → N.puts t x i → N.puts t y i → ⊥

-- Definition 3(2) of one transition: a bond taken is put, so that it breaks none.
abbrev pub Keeps : PetriNet → Transition → Type 0
Keeps N t = (β : Bond) → Pre N t (bond β) → Post N t (bond β)

-- (M(x) − pre(t)) ∪ post(t)
abbrev pub exchanged : PetriNet → Marks → Transition → ℕ → Items
exchanged N M t x = union (minus (M x) (Pre N t)) (Post N t)

-- Definition 21 without 21(2), and with 4(4): forward-enabled, as the customer has it. Each base and bond on an incoming arc is
-- in that place (21(1)); a bond on an outgoing arc that is already in an incoming place is on that place's arc (4(4));
-- bases that go to different places are connected in no incoming place when what is taken is removed and what is put
-- added (21(3)).
pub record Enabled7 (N : PetriNet) (M : Marks) (t : Transition) : Type 0 where
  -- 21(1)
  pub bases : (a x : ℕ) → Incoming N t x → N.takes x t (base a) → M x (base a)
  pub bonds : (β : Bond) (x : ℕ) → Incoming N t x → N.takes x t (bond β) → M x (bond β)
  -- 4(4)
  pub fresh : (β : Bond) (x y : ℕ) → Outgoing N t x → N.puts t x (bond β) → Incoming N t y → M y (bond β) → N.takes y t (bond β)
  -- 21(3)
  pub apart : (a b y z : ℕ) → N.puts t y (base a) → N.puts t z (base b) → (y ≡ z → ⊥) → (x : ℕ) → Incoming N t x → Con b (exchanged N M t x) (base a) → ⊥

-- 21(2): a bond that is present between two bases of one incoming arc is on that arc. The customer does not follow it: a step
-- may take bases whose bond it does not name, and that bond stays.
abbrev pub Separate : PetriNet → Marks → Transition → Type 0
Separate N M t = (β : Bond) (x : ℕ) → Incoming N t x → N.takes x t (base β.lo) → N.takes x t (base β.hi) → M x (bond β) → N.takes x t (bond β)

-- Definition 21. It does not ask for 4(4), which follows from 21(1) and 21(2) where each base is in one place.
pub record Enabled21 (N : PetriNet) (M : Marks) (t : Transition) : Type 0 where
  -- (1)
  pub bases : (a x : ℕ) → Incoming N t x → N.takes x t (base a) → M x (base a)
  pub bonds : (β : Bond) (x : ℕ) → Incoming N t x → N.takes x t (bond β) → M x (bond β)
  -- (2)
  pub separate : Separate N M t
  -- (3)
  pub apart : (a b y z : ℕ) → N.puts t y (base a) → N.puts t z (base b) → (y ≡ z → ⊥) → (x : ℕ) → Incoming N t x → Con b (exchanged N M t x) (base a) → ⊥

-- what comes to the place x: the union of con(a, (M(y) − F(y, t)) ∪ F(t, x)) over the bases a of F(t, x) and F(y, t)
abbrev pub comes22 : PetriNet → Marks → Transition → Marks
comes22 N M t x i = (a : ℕ) × (y : ℕ) × N.puts t x (base a) × N.takes y t (base a) × Con a (union (minus (M y) (N.takes y t)) (N.puts t x)) i

-- Definition 22, M'. The cases are one formula, as in Definition 5: what leaves goes first, and then comes what comes.
abbrev pub fired22 : PetriNet → Marks → Transition → Marks
fired22 N M t x = union (minus (M x) (leaves N M t x)) (comes22 N M t x)

-- what comes to the place x: the union of con(a, (M(y) − F(t, y)) ∪ F(x, t)) over the outgoing places y and the bases a of
-- F(x, t) and F(t, y)
abbrev pub comes24 : PetriNet → Marks → Transition → Marks
comes24 N M t x i =
    (y : ℕ) × (a : ℕ) × Outgoing N t y × N.takes x t (base a) × N.puts t y (base a) × Con a (union (minus (M y) (N.puts t y)) (N.takes x t)) i

-- Definition 24, M'. One formula, as in Definition 7.
abbrev pub reversed24 : PetriNet → Marks → Transition → Marks
reversed24 N M t x = union (minus (M x) (leaves_back N M t x)) (comes24 N M t x)
