-- Backtracking: Definitions 6 and 7 (004, section 3.2.2).
-- Definitions only. Definition 7's marking and history are two definitions.
use Rattle.std.specs.Prelude.{◌≡◌, ℕ, ◌≤◌}
use Rattle.net.specs.declared.Transition.{Transition}
use Rattle.published.specs.Sets.{base, union, minus, Max}
use Rattle.published.specs.Nets.{PetriNet, Outgoing}
use Rattle.published.specs.States.{Marks, Keys, Con}
use Rattle.published.specs.Forward.{eff}

-- Definition 6: bt-enabled. t has a key that is at least as high as all keys.
abbrev pub BacktrackEnabled : PetriNet → Keys → Transition → Type 0
BacktrackEnabled N H t = (k : ℕ) × H t k × ((u : Transition) (j : ℕ) → N.is_transition u → H u j → j ≤ k)

-- what leaves the place x: the union of con(a, M(x)) over the bases a of F(t, x)
abbrev pub leaves_back : PetriNet → Marks → Transition → Marks
leaves_back N M t x i = (a : ℕ) × N.puts t x (base a) × Con a (M x) i

-- what comes to the place x: the union of con(a, M(y) − eff(t)) over the outgoing places y and the bases a of F(x, t) and
-- F(t, y)
abbrev pub comes_back : PetriNet → Marks → Transition → Marks
comes_back N M t x i =
    (y : ℕ) × (a : ℕ) × Outgoing N t y × N.takes x t (base a) × N.puts t y (base a) × Con a (minus (M y) (eff N t)) i

-- Definition 7, M'. The three cases are one formula, as in Definition 5: what leaves goes first, and then comes what comes.
abbrev pub reversed_marks : PetriNet → Marks → Transition → Marks
reversed_marks N M t x = union (minus (M x) (leaves_back N M t x)) (comes_back N M t x)

-- Definition 7, H': t loses its highest key.
abbrev pub reversed_keys : Keys → Transition → Keys
reversed_keys H t u k = H u k × ((u ≡ t) × Max (H t) k → ⊥)
