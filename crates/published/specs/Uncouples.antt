-- What is claimed of every net, whether its steps break bonds or not (02, T-07): that firing and taking back, on a journal j with
-- the relation R for ≺, are section 4.1's, but for 21(2), which the customer does not follow, and 4(4), which he keeps; and
-- that a transition that breaks no bond is chapter 3's on any net. Statements only; proofs/ has a proof of each.
use Rattle.std.specs.Prelude.{◌≡◌, true, ℕ}
use Rattle.net.specs.Net.{Marking, Net}
use Rattle.net.specs.Firing.{in_set}
use Rattle.net.specs.Checks.{clear}
use Rattle.net.specs.Journal.{Journal, highest_live, line_of, enable_checks, undo_checks, new_line, fire_reply, undo_reply}
use Rattle.net.specs.declared.Key.{Key}
use Rattle.net.specs.declared.Transition.{Transition}
use Rattle.published.specs.Sets.{Iff, Item, Items, union, minus, Max}
use Rattle.published.specs.Nets.{PetriNet, Incoming, Outgoing}
use Rattle.published.specs.States.{Marks, Somewhere, IsMarking, EachInOnePlace}
use Rattle.published.specs.Forward.{Enabled, leaves, fired_marks}
use Rattle.published.specs.Backtracking.{BacktrackEnabled, leaves_back, reversed_marks, reversed_keys}
use Rattle.published.specs.Causal.{Order, Chain, fired_order, CausalEnabled, reversed_order}
use Rattle.published.specs.Uncoupling.{Keeps, Enabled7, Separate, Enabled21, comes22, fired22, comes24, reversed24}
use Rattle.published.specs.Sheets.{petri_net, marks_of, history_of, later_with_entry, later_with_common}

-- ---- The reading of Definitions 22 and 24, as that of 5 and 7: where a place is not both incoming and outgoing, the one formula
-- is the section's three cases; where it is both, the case that takes out and then the one that puts in.

-- `after` is what a place has after a step; `out` goes from what it had, `came` comes to it.
pub record StepByCases (takesFrom putsTo : Type 0) (had out came after : Items) : Type 0 where
  pub taken : (putsTo → ⊥) → (i : Item) → Iff (after i) (minus had out i)
  pub put : (takesFrom → ⊥) → (i : Item) → Iff (after i) (union had came i)
  pub neither : (takesFrom → ⊥) → (putsTo → ⊥) → (i : Item) → Iff (after i) (had i)
  pub both : takesFrom → putsTo → (i : Item) → Iff (after i) (union (minus had out) came i)

abbrev pub Fired22ByCases : PetriNet → Marks → Transition → ℕ → Type 0
Fired22ByCases N M t x = StepByCases (Incoming N t x) (Outgoing N t x) (M x) (leaves N M t x) (comes22 N M t x) (fired22 N M t x)

abbrev pub Reversed24ByCases : PetriNet → Marks → Transition → ℕ → Type 0
Reversed24ByCases N M t x = StepByCases (Outgoing N t x) (Incoming N t x) (M x) (leaves_back N M t x) (comes24 N M t x) (reversed24 N M t x)

-- Of a net: at each of its places, on every marking.
pub record UncouplesByCases (net : Net) : Type 0 where
  pub fired : (s : Marking) (t : Transition) (x : ℕ) → (petri_net net).is_place x → Fired22ByCases (petri_net net) (marks_of net s) t x
  pub reversed : (s : Marking) (t : Transition) (x : ℕ) → (petri_net net).is_place x → Reversed24ByCases (petri_net net) (marks_of net s) t x

-- ---- A journal j, with the relation R for ≺

pub record Uncouples (net : Net) (j : Journal) (R : Order) : Type 0 where
  -- its marking is one of the section's, with each base in exactly one place
  pub marking : IsMarking (petri_net net) (marks_of net j.marking)
  pub one_place : EachInOnePlace (petri_net net) (marks_of net j.marking)
  -- none of 12 to 16 holds exactly where the transition is one of the net's and enabled by Definition 21 without (2), with 4(4)
  pub enabled : (t : Transition) → Iff (clear (enable_checks net j.marking t) ≡ true) ((petri_net net).is_transition t × Enabled7 (petri_net net) (marks_of net j.marking) t)
  -- so 21(2) is all that Definition 21 asks beyond that
  pub definition21 : (t : Transition) → (petri_net net).is_transition t
      → Iff (Enabled21 (petri_net net) (marks_of net j.marking) t) (Enabled7 (petri_net net) (marks_of net j.marking) t × Separate (petri_net net) (marks_of net j.marking) t)
  -- a firing gives the marking of Definition 22
  pub fires : (t : Transition) → clear (enable_checks net j.marking t) ≡ true
      → (x : ℕ) (i : Item) → Iff (marks_of net (fire_reply net j t).journal.marking x i) (fired22 (petri_net net) (marks_of net j.marking) t x i)
  -- and moves the bases that leave by it
  pub moves : (t : Transition) → clear (enable_checks net j.marking t) ≡ true
      → (a : ℕ) → Iff (in_set (new_line net j t).moved a ≡ true) (Somewhere (leaves (petri_net net) (marks_of net j.marking) t) a)
  -- kind 2 is accepted, and takes back a firing of t, exactly where t is bt-enabled (Definition 23, which is 6)
  pub last : (t : Transition) → Iff
      ((clear (undo_checks j (highest_live j.lines)) ≡ true) × ((line_of (highest_live j.lines) j.lines).transition ≡ t))
      (BacktrackEnabled (petri_net net) (history_of j) t)
  -- ≺ is "of higher key, and moved the base of an entry of the earlier". It is part of document 01's dependence; in one or more
  -- steps they are the same, and a firing has a successor by the one exactly where it has one by the other.
  pub order : (u : Transition) (i : ℕ) (t : Transition) (k : ℕ) → Iff (R u i t k) (later_with_entry net j u i t k)
  pub order_part : (u : Transition) (i : ℕ) (t : Transition) (k : ℕ) → R u i t k → later_with_common j u i t k
  pub order_chains : (u : Transition) (i : ℕ) (t : Transition) (k : ℕ) → Iff (Chain R u i t k) (Chain (later_with_common j) u i t k)
  pub order_next : (u : Transition) (i : ℕ) → Iff ((t : Transition) × (k : ℕ) × R u i t k) ((t : Transition) × (k : ℕ) × later_with_common j u i t k)
  -- neither 19 nor 20 refuses the key k, a firing of t, exactly where t is c-enabled (Definition 25, which is 11) and k its
  -- highest key
  pub causal : (k : Key) (t : Transition) → Iff
      ((clear (undo_checks j k) ≡ true) × ((line_of k j.lines).transition ≡ t))
      (CausalEnabled (petri_net net) (marks_of net j.marking) (history_of j) R t × Max (history_of j t) k.0)
  -- taking back, the last firing or an earlier one, gives the marking of Definition 24 and the history of Definition 7, which
  -- are Definition 26's too
  pub undoes : (k : Key) → clear (undo_checks j k) ≡ true
      → (x : ℕ) (i : Item) → Iff (marks_of net (undo_reply net j k).journal.marking x i) (reversed24 (petri_net net) (marks_of net j.marking) (line_of k j.lines).transition x i)
  -- the bases that leave by Definition 24 are those that the firing moved
  pub moves_back : (k : Key) → clear (undo_checks j k) ≡ true
      → (a : ℕ) → Iff (in_set (line_of k j.lines).moved a ≡ true) (Somewhere (leaves_back (petri_net net) (marks_of net j.marking) (line_of k j.lines).transition) a)
  pub undone_keys : (k : Key) → clear (undo_checks j k) ≡ true
      → (u : Transition) (i : ℕ) → Iff (history_of (undo_reply net j k).journal u i) (reversed_keys (history_of j) (line_of k j.lines).transition u i)
  -- a firing gives ≺ of Definition 10; a taking back that of Definition 26, which is 12, by kind 2 as by kind 3
  pub order_fired : (t : Transition) → clear (enable_checks net j.marking t) ≡ true
      → (u : Transition) (i : ℕ) (v : Transition) (n : ℕ)
      → Iff (later_with_entry net (fire_reply net j t).journal u i v n) (fired_order (petri_net net) (marks_of net j.marking) (history_of (fire_reply net j t).journal) R t u i v n)
  pub order_undone : (k : Key) → clear (undo_checks j k) ≡ true
      → (u : Transition) (i : ℕ) (v : Transition) (n : ℕ)
      → Iff (later_with_entry net (undo_reply net j k).journal u i v n) (reversed_order (history_of j) R (line_of k j.lines).transition u i v n)
  -- A transition that breaks no bond is enabled by Definition 4, and has the markings of Definitions 5 and 7.
  pub keeps_enabled : (t : Transition) → (petri_net net).is_transition t → Keeps (petri_net net) t
      → Iff (Enabled7 (petri_net net) (marks_of net j.marking) t) (Enabled (petri_net net) (marks_of net j.marking) t)
  pub keeps_fires : (t : Transition) → clear (enable_checks net j.marking t) ≡ true → Keeps (petri_net net) t
      → (x : ℕ) (i : Item) → Iff (fired22 (petri_net net) (marks_of net j.marking) t x i) (fired_marks (petri_net net) (marks_of net j.marking) t x i)
  pub keeps_undoes : (k : Key) → clear (undo_checks j k) ≡ true → Keeps (petri_net net) (line_of k j.lines).transition
      → (x : ℕ) (i : Item)
      → Iff (reversed24 (petri_net net) (marks_of net j.marking) (line_of k j.lines).transition x i) (reversed_marks (petri_net net) (marks_of net j.marking) (line_of k j.lines).transition x i)
