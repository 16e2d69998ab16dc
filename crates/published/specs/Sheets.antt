-- The net that a sheet describes as a net of Definition 2, its markings and the journal's lines as markings and histories,
-- and the relation ≺ that Definitions 10 and 12 keep over a session. Definitions only.
use Rattle.std.specs.Prelude.{◌≡◌, ◌⊎◌, Bool, true, List, [], ◌∷◌, ◌++◌, ℕ, ◌<◌, length}
use Rattle.causal.specs.Lists.{Mem}
use Rattle.causal.specs.Reorderings.{Dependent}
use Rattle.net.specs.Tests.{all}
use Rattle.net.specs.Net.{Marking, Net, has_bond, place, arcs_of}
use Rattle.net.specs.Firing.{in_set, fire, breaks_none}
use Rattle.net.specs.Journal.{LiveLine, Journal, Answer, key, fired, undone, refused, begin, line_of, transition_named, act}
use Rattle.net.specs.declared.Bond.{Bond}
use Rattle.net.specs.declared.Entry.{Entry}
use Rattle.published.specs.Sets.{Item, base, bond, Items}
use Rattle.published.specs.Nets.{PetriNet}
use Rattle.published.specs.States.{Marks, Keys}
use Rattle.published.specs.Causal.{Order, no_order, fired_order, reversed_order}

-- the base by which an item is found: a base itself, a bond's first base
abbrev pub anchor : Item → ℕ
anchor (base a) = a
anchor (bond β) = β.lo

-- a base, or one of the bonds bs
abbrev pub Allowed : List Bond → Items
Allowed bs (base a) = Unit {0}
Allowed bs (bond β) = has_bond β bs ≡ true

-- The label of the place x's arc, on one side of a transition: the bases of the entries with that place, and the bonds whose
-- bases are among them. (The rules put both bases of a bond on one arc, so the first base tells.)
abbrev pub label_at : (Entry → ℕ) → List Entry → List Bond → ℕ → Items
label_at side es bs x i = Allowed bs i × (e : Entry) × Mem e es × (e.base ≡ anchor i) × (side e ≡ x)

-- The net of a sheet: bases, places and transitions by number; a bond joins two bases, the lower first.
abbrev pub petri_net : Net → PetriNet
petri_net net = record {
  is_base = λ a. a < net.bases;
  is_place = λ x. x < net.places;
  is_bond = λ β. (β.lo < β.hi) × (β.hi < net.bases);
  is_transition = λ t. t.0 < length net.transitions;
  takes = λ x t. label_at (λ (e : Entry). e.from) (arcs_of net t).entries (arcs_of net t).in_bonds x;
  puts = λ t x. label_at (λ (e : Entry). e.to) (arcs_of net t).entries (arcs_of net t).out_bonds x;
}

-- every transition of a net breaks nothing: each in-bond is an out-bond
abbrev pub breaks_nothing : Net → Bool
breaks_nothing net = all breaks_none net.transitions

-- a base of the net, or a bond of the marking
abbrev pub Present : Net → Marking → Items
Present net s (base a) = a < net.bases
Present net s (bond β) = has_bond β s.bonds ≡ true

-- A marking: each place has the bases that are at it, and the bonds whose bases are at it.
abbrev pub marks_of : Net → Marking → Marks
marks_of net s x i = Present net s i × (place s (anchor i) ≡ x)

-- A history: the keys of the live firings of each transition.
abbrev pub history_of : Journal → Keys
history_of j t k = (l : LiveLine) × Mem l j.lines × (l.transition ≡ t) × (l.key.0 ≡ k)

-- {0} and the keys that were given in answers
abbrev pub GivenAndZero : List Answer → ℕ → Type 0
GivenAndZero rs k = (k ≡ 0) ⊎ Mem (fired (key k)) rs

-- ≺ after one command, by its answer: Definition 10 on a firing, Definition 12 on a taking back. j is the journal before the
-- command, j' the journal after it.
abbrev pub order_step : Net → Journal → List ℕ → Journal → Answer → Order → Order
order_step net j c j' (fired k) R = fired_order (petri_net net) (marks_of net j.marking) (history_of j') R (transition_named c)
order_step net j c j' (undone k) R = reversed_order (history_of j) R (line_of k j.lines).transition
order_step net j c j' (refused n) R = R

-- ≺ after a list of commands
abbrev pub order_after : Net → List (List ℕ) → Journal → Order → Order
order_after net [] j R = R
order_after net (c ∷ cs) j R = order_after net cs (act net j c).journal (order_step net j c (act net j c).journal (act net j c).answer R)

-- A journal with one line more, which is fired with the key on it; that key was then given last.
abbrev pub with_line : Net → Journal → LiveLine → Journal
with_line net j l = record { marking = fire net.bases (arcs_of net l.transition) j.marking; lines = j.lines ++ (l ∷ []); given = l.key }

-- ≺ after lines are fired in turn on j, each with its own key: Definition 10 at each
abbrev pub order_over : Net → List LiveLine → Journal → Order → Order
order_over net [] j R = R
order_over net (l ∷ ls) j R = order_over net ls (with_line net j l) (fired_order (petri_net net) (marks_of net j.marking) (history_of (with_line net j l)) R l.transition)

-- ≺ of a list of lines alone: what Definition 10 gives on their forward run from the start, each with its own key
abbrev pub order_of_lines : Net → List LiveLine → Order
order_of_lines net ls = order_over net ls (begin net) no_order

-- the line h moved the base of an entry of l's transition
abbrev pub MovesEntry : Net → LiveLine → LiveLine → Type 0
MovesEntry net l h = (e : Entry) × Mem e (arcs_of net l.transition).entries × (in_set h.moved e.base ≡ true)

-- ≺ of Definitions 9, 10 and 12, by the lines alone: two live firings, the second of higher key, which moved the base of an
-- entry of the first.
abbrev pub later_with_entry : Net → Journal → Order
later_with_entry net j u i t k = (l : LiveLine) × (h : LiveLine) × Mem l j.lines × Mem h j.lines
    × (l.transition ≡ u) × (l.key.0 ≡ i) × (h.transition ≡ t) × (h.key.0 ≡ k) × (i < k) × MovesEntry net l h

-- Document 01's dependence, as refusal 20 has it: two live firings, the second of higher key, that moved a common base.
abbrev pub later_with_common : Journal → Order
later_with_common j u i t k = (l : LiveLine) × (h : LiveLine) × Mem l j.lines × Mem h j.lines
    × (l.transition ≡ u) × (l.key.0 ≡ i) × (h.transition ≡ t) × (h.key.0 ≡ k) × (i < k) × Dependent in_set l.moved h.moved
