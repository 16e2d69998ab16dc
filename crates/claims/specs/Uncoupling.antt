-- What is claimed of every accepted sheet, whether its steps break bonds or not (02, T-07), as statements about `command_of`:
-- that firing and taking back are section 4.1's of document 004, but for 21(2), which the customer does not follow, and 4(4),
-- which he keeps; and that a transition that breaks no bond is chapter 3's on any sheet. Statements only; proofs/ proves each.
use Rattle.std.specs.Prelude.{◌≡◌, ◌⊎◌, true, List, [], ◌∷◌, ◌++◌, ℕ, eqb}
use Rattle.causal.specs.Lists.{Mem}
use Rattle.net.specs.Checks.{clear}
use Rattle.net.specs.Journal.{LiveLine, kind_of, number_of, without, transition_named, read_checks, space_checks}
use Rattle.net.specs.declared.Transition.{Transition}
use Rattle.published.specs.Sets.{Iff, Item, Max}
use Rattle.published.specs.States.{IsMarking, EachInOnePlace}
use Rattle.published.specs.Forward.{Enabled, leaves, fired_marks}
use Rattle.published.specs.Backtracking.{BacktrackEnabled, leaves_back, reversed_marks, reversed_keys}
use Rattle.published.specs.Causal.{Order, Chain, fired_order, CausalEnabled, reversed_order}
use Rattle.published.specs.Uncoupling.{Keeps, Enabled7, Separate, Enabled21, fired22, reversed24}
use Rattle.published.specs.Sheets.{petri_net, later_with_entry, later_with_common}
use Rattle.format.specs.NetOf.{net_of}
use Rattle.tally.specs.declared.Tally.{Tally}
use Rattle.session.specs.declared.Record.{Record}
use Rattle.session.specs.Records.{held_in}
use Rattle.session.specs.Commands.{command_of}
use Rattle.commands.specs.declared.Answer.TheVariants.{Fired, Undone}
use Rattle.claims.specs.States.{marks_in, history_in, record_after, LineMoves}

-- ---- What a command does

-- The command c fires the transition v: it is answered Fired, and gives the marking of Definition 22 and ≺ of Definition 10.
-- Its line goes at the end, and has as moved bases those that leave by Definition 22.
pub record CommandFires22 (s : List ℕ) (r : Record) (R : Order) (t : Tally) (c : List ℕ) (v : Transition) : Type 0 where
  pub answer : (command_of s r t c).outcome.answer ≡ Fired
  pub marking : (x : ℕ) (i : Item) → Iff (marks_in s (record_after s r t c) x i) (fired22 (petri_net (net_of s)) (marks_in s r) v x i)
  -- where v breaks no bond, the marking is that of Definition 5
  pub keeps : Keeps (petri_net (net_of s)) v → (x : ℕ) (i : Item) → Iff (marks_in s (record_after s r t c) x i) (fired_marks (petri_net (net_of s)) (marks_in s r) v x i)
  pub line : (l : LiveLine) × ((held_in s (record_after s r t c)).lines ≡ (held_in s r).lines ++ (l ∷ [])) × LineMoves s r t c v (leaves (petri_net (net_of s)) (marks_in s r) v) l
  pub order : (u : Transition) (i : ℕ) (w : Transition) (k : ℕ)
      → Iff (later_with_entry (net_of s) (held_in s (record_after s r t c)) u i w k) (fired_order (petri_net (net_of s)) (marks_in s r) (history_in s (record_after s r t c)) R v u i w k)

-- The command c takes back the latest firing of v: it is answered Undone, and gives the marking of Definition 24 and the history
-- of Definition 7, which are Definition 26's too, and ≺ of Definition 26, which is 12, of kind 2 as of kind 3. The firing's
-- line goes, and its moved bases are those that leave by Definition 24.
pub record CommandTakesBack24 (s : List ℕ) (r : Record) (R : Order) (t : Tally) (c : List ℕ) (v : Transition) : Type 0 where
  pub answer : (command_of s r t c).outcome.answer ≡ Undone
  pub marking : (x : ℕ) (i : Item) → Iff (marks_in s (record_after s r t c) x i) (reversed24 (petri_net (net_of s)) (marks_in s r) v x i)
  -- where v breaks no bond, the marking is that of Definition 7
  pub keeps : Keeps (petri_net (net_of s)) v → (x : ℕ) (i : Item) → Iff (marks_in s (record_after s r t c) x i) (reversed_marks (petri_net (net_of s)) (marks_in s r) v x i)
  pub keys : (u : Transition) (k : ℕ) → Iff (history_in s (record_after s r t c) u k) (reversed_keys (history_in s r) v u k)
  pub line : (l : LiveLine) × Mem l (held_in s r).lines × ((held_in s (record_after s r t c)).lines ≡ without l.key (held_in s r).lines)
      × LineMoves s r t c v (leaves_back (petri_net (net_of s)) (marks_in s r) v) l
  pub order : (u : Transition) (i : ℕ) (w : Transition) (k : ℕ)
      → Iff (later_with_entry (net_of s) (held_in s (record_after s r t c)) u i w k) (reversed_order (history_in s r) R v u i w k)

-- ---- A record r, with the relation R for ≺, and every command on it. Where something "is done only if", what was done is said
-- too.

pub record RecordUncouples (s : List ℕ) (r : Record) (R : Order) : Type 0 where
  -- the record holds a marking of the net, with each base in exactly one place
  pub marking : IsMarking (petri_net (net_of s)) (marks_in s r)
  pub one_place : EachInOnePlace (petri_net (net_of s)) (marks_in s r)
  -- Kind 1. Where the command can be read and one more firing can be kept, it fires its transition if that is one of the net's
  -- and enabled by Definition 21 without (2), with 4(4); and it is answered Fired only then.
  pub fires : (t : Tally) (c : List ℕ) → clear (read_checks c) ≡ true → eqb (kind_of c) 1 ≡ true → clear (space_checks (held_in s r)) ≡ true
      → (petri_net (net_of s)).is_transition (transition_named c) × Enabled7 (petri_net (net_of s)) (marks_in s r) (transition_named c)
      → CommandFires22 s r R t c (transition_named c)
  pub fires_only : (t : Tally) (c : List ℕ) → (command_of s r t c).outcome.answer ≡ Fired
      → (eqb (kind_of c) 1 ≡ true) × (petri_net (net_of s)).is_transition (transition_named c) × Enabled7 (petri_net (net_of s)) (marks_in s r) (transition_named c)
      × CommandFires22 s r R t c (transition_named c)
  -- so 21(2) is all that Definition 21 asks beyond that
  pub definition21 : (v : Transition) → (petri_net (net_of s)).is_transition v
      → Iff (Enabled21 (petri_net (net_of s)) (marks_in s r) v) (Enabled7 (petri_net (net_of s)) (marks_in s r) v × Separate (petri_net (net_of s)) (marks_in s r) v)
  -- and a transition that breaks no bond is enabled by Definition 4
  pub keeps_enabled : (v : Transition) → (petri_net (net_of s)).is_transition v → Keeps (petri_net (net_of s)) v
      → Iff (Enabled7 (petri_net (net_of s)) (marks_in s r) v) (Enabled (petri_net (net_of s)) (marks_in s r) v)
  -- Kind 2. Where the command can be read, it takes back the latest firing of the transition that is bt-enabled (Definition 23,
  -- which is 6); and it is answered Undone only if there is one.
  pub undoes_last : (t : Tally) (c : List ℕ) → clear (read_checks c) ≡ true → eqb (kind_of c) 2 ≡ true
      → (v : Transition) → BacktrackEnabled (petri_net (net_of s)) (history_in s r) v → CommandTakesBack24 s r R t c v
  pub undoes_last_only : (t : Tally) (c : List ℕ) → eqb (kind_of c) 2 ≡ true → (command_of s r t c).outcome.answer ≡ Undone
      → (v : Transition) × (petri_net (net_of s)).is_transition v × BacktrackEnabled (petri_net (net_of s)) (history_in s r) v × CommandTakesBack24 s r R t c v
  -- Kind 3. Where the command can be read, it takes back the latest firing of a transition that is c-enabled (Definition 25,
  -- which is 11) if its number is that firing's key; and it is answered Undone only then.
  pub undoes : (t : Tally) (c : List ℕ) → clear (read_checks c) ≡ true → eqb (kind_of c) 3 ≡ true
      → (v : Transition) → CausalEnabled (petri_net (net_of s)) (marks_in s r) (history_in s r) R v → Max (history_in s r v) (number_of c) → CommandTakesBack24 s r R t c v
  pub undoes_only : (t : Tally) (c : List ℕ) → eqb (kind_of c) 3 ≡ true → (command_of s r t c).outcome.answer ≡ Undone
      → (v : Transition) × (petri_net (net_of s)).is_transition v × CausalEnabled (petri_net (net_of s)) (marks_in s r) (history_in s r) R v
      × Max (history_in s r v) (number_of c) × CommandTakesBack24 s r R t c v
  -- and no other kind is answered Undone
  pub undoes_kinds : (t : Tally) (c : List ℕ) → (command_of s r t c).outcome.answer ≡ Undone → (eqb (kind_of c) 2 ≡ true) ⊎ (eqb (kind_of c) 3 ≡ true)
  -- ≺ is "of higher key, and moved the base of an entry of the earlier". It is part of document 01's dependence; in one or more
  -- steps they are the same, and a firing has a successor by the one exactly where it has one by the other.
  pub order : (u : Transition) (i : ℕ) (v : Transition) (k : ℕ) → Iff (R u i v k) (later_with_entry (net_of s) (held_in s r) u i v k)
  pub order_part : (u : Transition) (i : ℕ) (v : Transition) (k : ℕ) → R u i v k → later_with_common (held_in s r) u i v k
  pub order_chains : (u : Transition) (i : ℕ) (v : Transition) (k : ℕ) → Iff (Chain R u i v k) (Chain (later_with_common (held_in s r)) u i v k)
  pub order_next : (u : Transition) (i : ℕ) → Iff ((v : Transition) × (k : ℕ) × R u i v k) ((v : Transition) × (k : ℕ) × later_with_common (held_in s r) u i v k)
