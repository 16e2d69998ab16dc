-- Reversing Petri nets: Definition 2, the notation that follows it, Definition 3 (004, section 3.2).
-- Definitions only. That a set is not empty is said by an element of it.
use Rattle.std.specs.Prelude.{◌≡◌, ℕ}
use Rattle.net.specs.Journal.{transition}
use Rattle.net.specs.declared.Bond.{Bond}
use Rattle.net.specs.declared.Transition.{Transition}
use Rattle.published.specs.Sets.{Iff, Item, base, bond, Items, Finite}

-- Definition 2, the tuple (A, P, B, T, F).
pub record PetriNet : Type 1 where
  -- (1) A, the bases
  pub is_base : ℕ → Type 0
  -- (2) P, the places
  pub is_place : ℕ → Type 0
  -- (3) B, the bonds
  pub is_bond : Bond → Type 0
  -- (4) T, the transitions
  pub is_transition : Transition → Type 0
  -- (5) F, the labels of the arcs: F(x, t) from a place to a transition, F(t, x) from a transition to a place
  pub takes : ℕ → Transition → Items
  pub puts : Transition → ℕ → Items

-- the item is in A ∪ B
abbrev pub Known : PetriNet → Items
Known N (base a) = N.is_base a
Known N (bond β) = N.is_bond β

-- Definition 2, what it asks of the five: (1), (2), (4) A, P and T are finite; (3) B ⊆ A × A; (5) labels are subsets of
-- A ∪ B. And from the text after it: a bond in a label has its two bases in that label.
pub record Definition2 (N : PetriNet) : Type 0 where
  pub bases : Finite N.is_base
  pub places : Finite N.is_place
  pub transitions : Finite (λ n. N.is_transition (transition n))
  pub bonds : (β : Bond) → N.is_bond β → N.is_base β.lo × N.is_base β.hi
  pub taken : (x : ℕ) (t : Transition) (i : Item) → N.is_transition t → N.takes x t i → N.is_place x × Known N i
  pub put : (x : ℕ) (t : Transition) (i : Item) → N.is_transition t → N.puts t x i → N.is_place x × Known N i
  pub taken_ends : (x : ℕ) (t : Transition) (β : Bond) → N.is_transition t → N.takes x t (bond β) → N.takes x t (base β.lo) × N.takes x t (base β.hi)
  pub put_ends : (x : ℕ) (t : Transition) (β : Bond) → N.is_transition t → N.puts t x (bond β) → N.puts t x (base β.lo) × N.puts t x (base β.hi)

-- The incoming places ∘t and the outgoing places t∘: those with a label that is not empty.
abbrev pub Incoming : PetriNet → Transition → ℕ → Type 0
Incoming N t x = N.is_place x × (i : Item) × N.takes x t i

abbrev pub Outgoing : PetriNet → Transition → ℕ → Type 0
Outgoing N t x = N.is_place x × (i : Item) × N.puts t x i

-- pre(t) and post(t): the union of all labels on incoming arcs, and on outgoing arcs.
abbrev pub Pre : PetriNet → Transition → Items
Pre N t i = (x : ℕ) × N.is_place x × N.takes x t i

abbrev pub Post : PetriNet → Transition → Items
Post N t i = (x : ℕ) × N.is_place x × N.puts t x i

-- Definition 3: well-formed. (1) The bases taken are the bases put; (2) a bond taken is put; (3) nothing is put in two
-- places.
pub record WellFormed (N : PetriNet) : Type 0 where
  -- (1)
  pub same_bases : (t : Transition) (a : ℕ) → N.is_transition t → Iff (Pre N t (base a)) (Post N t (base a))
  -- (2)
  pub kept_bonds : (t : Transition) (β : Bond) → N.is_transition t → Pre N t (bond β) → Post N t (bond β)
  -- (3)
  pub once_put : (t : Transition) (x y : ℕ) (i : Item) → N.is_transition t → N.is_place x → N.is_place y → (x ≡ y → ⊥) → N.puts t x i → N.puts t y i → ⊥
