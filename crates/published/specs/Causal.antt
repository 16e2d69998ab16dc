-- Causal order: Definitions 8 to 12 (004, section 3.2.3).
-- Definitions only.
use Rattle.std.specs.Prelude.{◌≡◌, ◌⊎◌, ℕ, ◌<◌}
use Rattle.net.specs.declared.Transition.{Transition}
use Rattle.published.specs.Sets.{Item, base, Max}
use Rattle.published.specs.Nets.{PetriNet, Outgoing, Post}
use Rattle.published.specs.States.{Marks, Keys, Con}

-- Definition 8: (t, k) is a transition occurrence.
abbrev pub Occurs : Keys → Transition → ℕ → Type 0
Occurs H t k = H t k

-- con(a, M(x)) has something of post(u), for some base a of F(x, t)
abbrev pub Uses : PetriNet → Marks → Transition → Transition → Type 0
Uses N M t u = (a : ℕ) × (x : ℕ) × (i : Item) × N.takes x t (base a) × Con a (M x) i × Post N u i

-- Definition 9: (t, k) causally depends on (u, j). M is the marking just before the firing of t; H' the history just after
-- it, in which both occur and k is the highest key of t.
abbrev pub DependsOn : PetriNet → Marks → Keys → Transition → ℕ → Transition → ℕ → Type 0
DependsOn N M H' t k u j = Occurs H' t k × Occurs H' u j × Max (H' t) k × (j < k) × Uses N M t u

-- The relation ≺ between occurrences: `R u j t k` says (u, j) ≺ (t, k). At first it is empty.
abbrev pub Order : Type 1
Order = Transition → ℕ → Transition → ℕ → Type 0

abbrev pub no_order : Order
no_order u j t k = ⊥

-- One or more steps of the relation: its transitive closure.
pub data Chain (R : Order) : Transition → ℕ → Transition → ℕ → Type 0 where
  once : {u t : Transition} {i k : ℕ} → R u i t k → Chain R u i t k
  onward : {u v t : Transition} {i n k : ℕ} → R u i v n → Chain R v n t k → Chain R u i t k

-- Definition 10, ≺' after the firing of t; M is the marking before it, H' the history after it (Definition 5's).
abbrev pub fired_order : PetriNet → Marks → Keys → Order → Transition → Order
fired_order N M H' R t u j v k = R u j v k ⊎ ((v ≡ t) × DependsOn N M H' t k u j)

-- Definition 11: c-enabled. t has a key; (1) each base and bond on an outgoing arc is in that place; (2) no occurrence
-- depends on that of t's highest key.
pub record CausalEnabled (N : PetriNet) (M : Marks) (H : Keys) (R : Order) (t : Transition) : Type 0 where
  pub occurs : (k : ℕ) × Occurs H t k
  -- (1)
  pub available : (x : ℕ) (i : Item) → Outgoing N t x → N.puts t x i → M x i
  -- (2)
  pub unused : (k : ℕ) → Max (H t) k → (u : Transition) (j : ℕ) → Occurs H u j → R t k u j → ⊥

-- Definition 12, ≺' after the reversal of t; H is the history before it. M' and H' are Definition 7's.
abbrev pub reversed_order : Keys → Order → Transition → Order
reversed_order H R t u j v k = R u j v k × (Max (H t) k → ⊥)
