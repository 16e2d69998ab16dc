-- Forward execution: Definitions 4 and 5 (004, section 3.2.1).
-- Definitions only. Definition 5's marking and history are two definitions.
use Rattle.std.specs.Prelude.{◌≡◌, ◌⊎◌, ℕ, suc}
use Rattle.net.specs.declared.Bond.{Bond}
use Rattle.net.specs.declared.Transition.{Transition}
use Rattle.published.specs.Sets.{base, bond, Items, union, minus, Max}
use Rattle.published.specs.Nets.{PetriNet, Incoming, Outgoing, Pre, Post}
use Rattle.published.specs.States.{Marks, Keys, Con}

-- Definition 4: forward-enabled. (1), (2) Each base and bond on an incoming arc is in that place; (3) bases that go to
-- different places are connected in no incoming place; (4) a bond on an outgoing arc that is already in an incoming place
-- is on that place's arc.
pub record Enabled (N : PetriNet) (M : Marks) (t : Transition) : Type 0 where
  -- (1)
  pub bases : (a x : ℕ) → Incoming N t x → N.takes x t (base a) → M x (base a)
  -- (2)
  pub bonds : (β : Bond) (x : ℕ) → Incoming N t x → N.takes x t (bond β) → M x (bond β)
  -- (3)
  pub apart : (a b y z : ℕ) → N.puts t y (base a) → N.puts t z (base b) → (y ≡ z → ⊥) → (x : ℕ) → Incoming N t x → Con a (M x) (base b) → ⊥
  -- (4)
  pub fresh : (β : Bond) (x y : ℕ) → Outgoing N t x → N.puts t x (bond β) → Incoming N t y → M y (bond β) → N.takes y t (bond β)

-- eff(t) = post(t) − pre(t)
abbrev pub eff : PetriNet → Transition → Items
eff N t = minus (Post N t) (Pre N t)

-- what leaves the place x: the union of con(a, M(x)) over the bases a of F(x, t)
abbrev pub leaves : PetriNet → Marks → Transition → Marks
leaves N M t x i = (a : ℕ) × N.takes x t (base a) × Con a (M x) i

-- what comes to the place x: the union of con(a, M(y)) over the bases a of F(t, x) and F(y, t)
abbrev pub comes : PetriNet → Marks → Transition → Marks
comes N M t x i = (a : ℕ) × (y : ℕ) × N.puts t x (base a) × N.takes y t (base a) × Con a (M y) i

-- Definition 5, M'. The three cases are one formula: off ∘t nothing leaves, off t∘ nothing comes. A place that is both
-- loses what leaves first, and then gets what comes.
abbrev pub fired_marks : PetriNet → Marks → Transition → Marks
fired_marks N M t x = union (minus (M x) (leaves N M t x)) (union (N.puts t x) (comes N M t x))

-- H' where t gets the key n.
abbrev pub keys_with : Keys → Transition → ℕ → Keys
keys_with H t n u k = H u k ⊎ ((u ≡ t) × (k ≡ n))

-- {0} and the keys of all transitions
abbrev pub KeysAndZero : PetriNet → Keys → ℕ → Type 0
KeysAndZero N H k = (k ≡ 0) ⊎ ((t : Transition) × N.is_transition t × H t k)

-- Definition 5, H': t gets one more key, one above the highest.
abbrev pub fired_keys : PetriNet → Keys → Transition → Keys
fired_keys N H t u k = H u k ⊎ ((u ≡ t) × (m : ℕ) × Max (KeysAndZero N H) m × (k ≡ suc m))
