-- What is claimed: that document 01's firing and taking back, on every journal that a session can reach, are chapter 3's, where
-- no step breaks a bond, and section 4.1's (Uncouples) in every case, but for the key that a firing gets (02, T-03).
-- Statements only; proofs/ has a proof of each.
use Rattle.std.specs.Prelude.{◌≡◌, ◌⊎◌, true, List, ℕ, suc, ◌<◌}
use Rattle.net.specs.Net.{Marking, Net, arcs_of}
use Rattle.net.specs.Firing.{in_set, breaks_none}
use Rattle.net.specs.Checks.{clear}
use Rattle.net.specs.Journal.{Journal, highest_live, last_given, line_of, enable_checks, undo_checks, new_line, fire_reply, undo_reply, begin, play, answers}
use Rattle.net.specs.History.{sound}
use Rattle.net.specs.declared.Key.{Key}
use Rattle.net.specs.declared.Transition.{Transition}
use Rattle.published.specs.Sets.{Iff, Item, Items, union, minus, Max}
use Rattle.published.specs.Nets.{PetriNet, Definition2, Incoming, Outgoing, WellFormed}
use Rattle.published.specs.States.{Marks, Somewhere, IsMarking, EachInOnePlace, Keys, no_keys}
use Rattle.published.specs.Forward.{Enabled, leaves, comes, fired_marks, keys_with, KeysAndZero, fired_keys}
use Rattle.published.specs.Backtracking.{BacktrackEnabled, leaves_back, comes_back, reversed_marks, reversed_keys}
use Rattle.published.specs.Causal.{Order, no_order, fired_order, CausalEnabled, reversed_order}
use Rattle.published.specs.Uncoupling.{WellFormed20, Keeps}
use Rattle.published.specs.Sheets.{petri_net, breaks_nothing, marks_of, history_of, GivenAndZero, order_after, order_of_lines, later_with_common}
use Rattle.published.specs.Uncouples.{UncouplesByCases, Uncouples}

-- ---- The reading of Definitions 5 and 7. Where a place is not both incoming and outgoing, the one formula is the chapter's
-- three cases. Where it is both, two of them speak of it, and it is the one that takes out and then the one that puts in.

-- Definition 5's first and second case, of what a place has
abbrev pub lost : PetriNet → Marks → Transition → ℕ → Items → Items
lost N M t x C = minus C (leaves N M t x)

abbrev pub got : PetriNet → Marks → Transition → ℕ → Items → Items
got N M t x C = union C (union (N.puts t x) (comes N M t x))

pub record FiredByCases (N : PetriNet) (M : Marks) (t : Transition) (x : ℕ) : Type 0 where
  pub incoming : (Outgoing N t x → ⊥) → (i : Item) → Iff (fired_marks N M t x i) (lost N M t x (M x) i)
  pub outgoing : (Incoming N t x → ⊥) → (i : Item) → Iff (fired_marks N M t x i) (got N M t x (M x) i)
  pub neither : (Incoming N t x → ⊥) → (Outgoing N t x → ⊥) → (i : Item) → Iff (fired_marks N M t x i) (M x i)
  pub both : Incoming N t x → Outgoing N t x → (i : Item) → Iff (fired_marks N M t x i) (got N M t x (lost N M t x (M x)) i)

-- Definition 7's second and first case
abbrev pub lost_back : PetriNet → Marks → Transition → ℕ → Items → Items
lost_back N M t x C = minus C (leaves_back N M t x)

abbrev pub got_back : PetriNet → Marks → Transition → ℕ → Items → Items
got_back N M t x C = union C (comes_back N M t x)

pub record ReversedByCases (N : PetriNet) (M : Marks) (t : Transition) (x : ℕ) : Type 0 where
  pub incoming : (Outgoing N t x → ⊥) → (i : Item) → Iff (reversed_marks N M t x i) (got_back N M t x (M x) i)
  pub outgoing : (Incoming N t x → ⊥) → (i : Item) → Iff (reversed_marks N M t x i) (lost_back N M t x (M x) i)
  pub neither : (Incoming N t x → ⊥) → (Outgoing N t x → ⊥) → (i : Item) → Iff (reversed_marks N M t x i) (M x i)
  pub both : Incoming N t x → Outgoing N t x → (i : Item) → Iff (reversed_marks N M t x i) (got_back N M t x (lost_back N M t x (M x)) i)

-- Of a net: at each of its places, on every marking. Whether a place is incoming, and whether it is outgoing, is decided, so
-- that each falls under one of the four.
pub record ByCases (net : Net) : Type 0 where
  pub decided : (t : Transition) (x : ℕ) → (petri_net net).is_place x
      → (Incoming (petri_net net) t x ⊎ (Incoming (petri_net net) t x → ⊥)) × (Outgoing (petri_net net) t x ⊎ (Outgoing (petri_net net) t x → ⊥))
  pub fired : (s : Marking) (t : Transition) (x : ℕ) → (petri_net net).is_place x → FiredByCases (petri_net net) (marks_of net s) t x
  pub reversed : (s : Marking) (t : Transition) (x : ℕ) → (petri_net net).is_place x → ReversedByCases (petri_net net) (marks_of net s) t x

-- ---- The initial state

-- The marking is the start of the net, one of the chapter's, with each base in exactly one place; the history is empty. (≺
-- is empty too: it is what `order_after` begins with.)
pub record Initial (net : Net) (M : Marks) (H : Keys) : Type 0 where
  pub start : (x : ℕ) (i : Item) → Iff (M x i) (marks_of net net.start x i)
  pub marking : IsMarking (petri_net net) M
  pub one_place : EachInOnePlace (petri_net net) M
  pub history : (t : Transition) (k : ℕ) → Iff (H t k) (no_keys t k)

-- ---- A journal j, with the relation R for ≺

pub record JournalAsPublished (net : Net) (j : Journal) (R : Order) : Type 0 where
  -- its marking is one of the chapter's, with each base in exactly one place
  pub marking : IsMarking (petri_net net) (marks_of net j.marking)
  pub one_place : EachInOnePlace (petri_net net) (marks_of net j.marking)
  -- none of 12 to 16 holds exactly where the transition is one of the net's and forward-enabled (Definition 4)
  pub enabled : (t : Transition) → Iff (clear (enable_checks net j.marking t) ≡ true) ((petri_net net).is_transition t × Enabled (petri_net net) (marks_of net j.marking) t)
  -- a firing gives the marking of Definition 5
  pub fires : (t : Transition) → clear (enable_checks net j.marking t) ≡ true
      → (x : ℕ) (i : Item) → Iff (marks_of net (fire_reply net j t).journal.marking x i) (fired_marks (petri_net net) (marks_of net j.marking) t x i)
  -- and moves the bases that leave by it
  pub moves : (t : Transition) → clear (enable_checks net j.marking t) ≡ true
      → (a : ℕ) → Iff (in_set (new_line net j t).moved a ≡ true) (Somewhere (leaves (petri_net net) (marks_of net j.marking) t) a)
  -- kind 2 is accepted, and takes back a firing of t, exactly where t is bt-enabled (Definition 6)
  pub last : (t : Transition) → Iff
      ((clear (undo_checks j (highest_live j.lines)) ≡ true) × ((line_of (highest_live j.lines) j.lines).transition ≡ t))
      (BacktrackEnabled (petri_net net) (history_of j) t)
  -- ≺ is "of higher key, with a common moved base"
  pub order : (u : Transition) (i : ℕ) (t : Transition) (k : ℕ) → Iff (R u i t k) (later_with_common j u i t k)
  -- neither 19 nor 20 refuses the key k, a firing of t, exactly where t is c-enabled (Definition 11) and k its highest key
  pub causal : (k : Key) (t : Transition) → Iff
      ((clear (undo_checks j k) ≡ true) × ((line_of k j.lines).transition ≡ t))
      (CausalEnabled (petri_net net) (marks_of net j.marking) (history_of j) R t × Max (history_of j t) k.0)
  -- taking back, the last firing or an earlier one, gives the marking and the history of Definition 7, which are
  -- Definition 12's too
  pub undoes : (k : Key) → clear (undo_checks j k) ≡ true
      → (x : ℕ) (i : Item) → Iff (marks_of net (undo_reply net j k).journal.marking x i) (reversed_marks (petri_net net) (marks_of net j.marking) (line_of k j.lines).transition x i)
  -- the bases that leave by Definition 7 are those that the firing moved
  pub moves_back : (k : Key) → clear (undo_checks j k) ≡ true
      → (a : ℕ) → Iff (in_set (line_of k j.lines).moved a ≡ true) (Somewhere (leaves_back (petri_net net) (marks_of net j.marking) (line_of k j.lines).transition) a)
  pub undone_keys : (k : Key) → clear (undo_checks j k) ≡ true
      → (u : Transition) (i : ℕ) → Iff (history_of (undo_reply net j k).journal u i) (reversed_keys (history_of j) (line_of k j.lines).transition u i)
  -- a firing gives ≺ of Definition 10; a taking back that of Definition 12, by kind 2 as by kind 3 (the chapter keeps no ≺ in
  -- backtracking, so Definition 12 is the one there is)
  pub order_fired : (t : Transition) → clear (enable_checks net j.marking t) ≡ true
      → (u : Transition) (i : ℕ) (v : Transition) (n : ℕ)
      → Iff (later_with_common (fire_reply net j t).journal u i v n) (fired_order (petri_net net) (marks_of net j.marking) (history_of (fire_reply net j t).journal) R t u i v n)
  pub order_undone : (k : Key) → clear (undo_checks j k) ≡ true
      → (u : Transition) (i : ℕ) (v : Transition) (n : ℕ)
      → Iff (later_with_common (undo_reply net j k).journal u i v n) (reversed_order (history_of j) R (line_of k j.lines).transition u i v n)

-- The keys of firings. Definition 5 gives one above the highest of the history; 02, T-03 gives one above the highest that was
-- ever given.
pub record JournalKeysAsPublished (net : Net) (j : Journal) : Type 0 where
  -- a firing gives its transition one more key, one above the highest given, and changes no other
  pub fired : (t u : Transition) (k : ℕ) → Iff (history_of (fire_reply net j t).journal u k) (keys_with (history_of j) t (suc (last_given j).0) u k)
  -- the new key is above every key of the history
  pub above : (t : Transition) (k : ℕ) → history_of j t k → k < suc (last_given j).0
  -- Definition 5 looks at the highest live key, 0 where none is live; a firing gives its history exactly where no higher key
  -- was given
  pub highest : Max (KeysAndZero (petri_net net) (history_of j)) (highest_live j.lines).0
  pub definition5 : (t : Transition) → Iff
      ((last_given j).0 ≡ (highest_live j.lines).0)
      ((u : Transition) (k : ℕ) → Iff (history_of (fire_reply net j t).journal u k) (fired_keys (petri_net net) (history_of j) t u k))

-- ---- All of it, of a net and every list of commands on it. ≺ is what Definitions 10 and 12 keep over the commands; of a sound
-- history that is handed in, whose past is not known, what Definition 10 gives on the forward run of its lines. `states` and
-- `histories` are claimed of nets that are well-formed by Definition 3, `states_uncouple` and `histories_uncouple` of all.

pub record Published (net : Net) : Type 0 where
  pub definition2 : Definition2 (petri_net net)
  -- Definition 20, without 3(2); the net is well-formed by Definition 3 exactly if no step of it breaks a bond
  pub well_formed20 : WellFormed20 (petri_net net)
  pub well_formed : Iff (WellFormed (petri_net net)) (breaks_nothing net ≡ true)
  pub keeps : (t : Transition) → (petri_net net).is_transition t → Iff (Keeps (petri_net net) t) (breaks_none (arcs_of net t) ≡ true)
  pub by_cases : ByCases net
  pub uncouples_by_cases : UncouplesByCases net
  pub initial : Initial net (marks_of net (begin net).marking) (history_of (begin net))
  pub states : WellFormed (petri_net net) → (cs : List (List ℕ)) → JournalAsPublished net (play net cs (begin net)) (order_after net cs (begin net) no_order)
  pub histories : WellFormed (petri_net net) → (j : Journal) → sound net j ≡ true → JournalAsPublished net j (order_of_lines net j.lines)
  pub states_uncouple : (cs : List (List ℕ)) → Uncouples net (play net cs (begin net)) (order_after net cs (begin net) no_order)
  pub histories_uncouple : (j : Journal) → sound net j ≡ true → Uncouples net j (order_of_lines net j.lines)
  pub keys : (cs : List (List ℕ)) → JournalKeysAsPublished net (play net cs (begin net))
  pub history_keys : (j : Journal) → sound net j ≡ true → JournalKeysAsPublished net j
  -- the highest given is the highest of all keys in the answers, 0 where there are none; of a history that is handed in it is
  -- the number in it
  pub given : (cs : List (List ℕ)) → Max (GivenAndZero (answers net cs (begin net))) (last_given (play net cs (begin net))).0
