-- What "firing and taking back do what the published definition does" means (demand 2), as statements about `command_of`:
-- chapter 3 of document 004 (crate published), under document 01's reading, but for the key that a firing gets (02, T-03);
-- and section 4.1 (Uncoupling). Statements only; proofs/ proves each.
use Rattle.std.specs.Prelude.{◌≡◌, ◌⊎◌, true, List, [], ◌∷◌, ◌++◌, ℕ, suc, ◌<◌, eqb}
use Rattle.causal.specs.Lists.{Mem}
use Rattle.net.specs.Firing.{breaks_none}
use Rattle.net.specs.Net.{arcs_of}
use Rattle.net.specs.Checks.{clear}
use Rattle.net.specs.Journal.{LiveLine, key, kind_of, number_of, highest_live, last_given, without, transition_named, read_checks, space_checks}
use Rattle.net.specs.declared.Transition.{Transition}
use Rattle.published.specs.Sets.{Iff, Item, Max}
use Rattle.published.specs.Nets.{Definition2, WellFormed}
use Rattle.published.specs.States.{IsMarking, EachInOnePlace}
use Rattle.published.specs.Forward.{Enabled, leaves, fired_marks, keys_with, KeysAndZero, fired_keys}
use Rattle.published.specs.Backtracking.{BacktrackEnabled, leaves_back, reversed_marks, reversed_keys}
use Rattle.published.specs.Causal.{Order, fired_order, CausalEnabled, reversed_order}
use Rattle.published.specs.Uncoupling.{WellFormed20, Keeps}
use Rattle.published.specs.Sheets.{petri_net, breaks_nothing, order_of_lines, later_with_common}
use Rattle.published.specs.Uncouples.{UncouplesByCases}
use Rattle.published.specs.Claims.{ByCases, Initial}
use Rattle.format.specs.NetOf.{net_of}
use Rattle.sheet.specs.Checks.{sheet_checks}
use Rattle.tally.specs.declared.Tally.{Tally}
use Rattle.session.specs.declared.Record.{Record}
use Rattle.session.specs.Records.{held_in, sound_for}
use Rattle.session.specs.Commands.{fresh_of, command_of}
use Rattle.session.specs.Runs.{Answered}
use Rattle.commands.specs.declared.Answer.TheVariants.{Fired, Undone}
use Rattle.claims.specs.Sessions.{session_after}
use Rattle.claims.specs.States.{marks_in, history_in, order_in, record_after, LineMoves}
use Rattle.claims.specs.Uncoupling.{RecordUncouples}

-- ---- The keys that a record gave

-- the highest key ever given (02, T-03)
abbrev pub given_in : List ℕ → Record → ℕ
given_in s r = (last_given (held_in s r)).0

-- the answer to a firing of key k
abbrev pub fired_as : ℕ → Answered
fired_as k = record { answer = Fired; key = key k }

-- {0} and the keys that were given in a session's answers
abbrev pub AnsweredAndZero : List Answered → ℕ → Type 0
AnsweredAndZero rs k = (k ≡ 0) ⊎ Mem (fired_as k) rs

-- ---- What a command does

-- The command c fires the transition v: it is answered Fired, and gives the marking of Definition 5 and ≺ of Definition 10.
-- Its line goes at the end, and has as moved bases those that leave by Definition 5.
pub record CommandFires (s : List ℕ) (r : Record) (R : Order) (t : Tally) (c : List ℕ) (v : Transition) : Type 0 where
  pub answer : (command_of s r t c).outcome.answer ≡ Fired
  pub marking : (x : ℕ) (i : Item) → Iff (marks_in s (record_after s r t c) x i) (fired_marks (petri_net (net_of s)) (marks_in s r) v x i)
  pub line : (l : LiveLine) × ((held_in s (record_after s r t c)).lines ≡ (held_in s r).lines ++ (l ∷ [])) × LineMoves s r t c v (leaves (petri_net (net_of s)) (marks_in s r) v) l
  pub order : (u : Transition) (i : ℕ) (w : Transition) (k : ℕ)
      → Iff (later_with_common (held_in s (record_after s r t c)) u i w k) (fired_order (petri_net (net_of s)) (marks_in s r) (history_in s (record_after s r t c)) R v u i w k)

-- The command c takes back the latest firing of v: it is answered Undone, and gives the marking and the history of
-- Definition 7, which are those of Definition 12, and ≺ of Definition 12, of kind 2 as of kind 3 (the chapter's backtracking
-- keeps no ≺). The firing's line goes, and its moved bases are those that leave by Definition 7.
pub record CommandTakesBack (s : List ℕ) (r : Record) (R : Order) (t : Tally) (c : List ℕ) (v : Transition) : Type 0 where
  pub answer : (command_of s r t c).outcome.answer ≡ Undone
  pub marking : (x : ℕ) (i : Item) → Iff (marks_in s (record_after s r t c) x i) (reversed_marks (petri_net (net_of s)) (marks_in s r) v x i)
  pub keys : (u : Transition) (k : ℕ) → Iff (history_in s (record_after s r t c) u k) (reversed_keys (history_in s r) v u k)
  pub line : (l : LiveLine) × Mem l (held_in s r).lines × ((held_in s (record_after s r t c)).lines ≡ without l.key (held_in s r).lines)
      × LineMoves s r t c v (leaves_back (petri_net (net_of s)) (marks_in s r) v) l
  pub order : (u : Transition) (i : ℕ) (w : Transition) (k : ℕ) → Iff (later_with_common (held_in s (record_after s r t c)) u i w k) (reversed_order (history_in s r) R v u i w k)

-- ---- A record r, with the relation R for ≺, and every command on it. Where something "is done only if", what was done is said
-- too.

pub record RecordAsPublished (s : List ℕ) (r : Record) (R : Order) : Type 0 where
  -- the record holds a marking of the net, with each base in exactly one place
  pub marking : IsMarking (petri_net (net_of s)) (marks_in s r)
  pub one_place : EachInOnePlace (petri_net (net_of s)) (marks_in s r)
  -- Kind 1. Where the command can be read and one more firing can be kept, it fires its transition if that is one of the net's
  -- and forward-enabled (Definition 4); and it is answered Fired only then.
  pub fires : (t : Tally) (c : List ℕ) → clear (read_checks c) ≡ true → eqb (kind_of c) 1 ≡ true → clear (space_checks (held_in s r)) ≡ true
      → (petri_net (net_of s)).is_transition (transition_named c) × Enabled (petri_net (net_of s)) (marks_in s r) (transition_named c)
      → CommandFires s r R t c (transition_named c)
  pub fires_only : (t : Tally) (c : List ℕ) → (command_of s r t c).outcome.answer ≡ Fired
      → (eqb (kind_of c) 1 ≡ true) × (petri_net (net_of s)).is_transition (transition_named c) × Enabled (petri_net (net_of s)) (marks_in s r) (transition_named c)
      × CommandFires s r R t c (transition_named c)
  -- Kind 2. Where the command can be read, it takes back the latest firing of the transition that is bt-enabled (Definition
  -- 6); and it is answered Undone only if there is one.
  pub undoes_last : (t : Tally) (c : List ℕ) → clear (read_checks c) ≡ true → eqb (kind_of c) 2 ≡ true
      → (v : Transition) → BacktrackEnabled (petri_net (net_of s)) (history_in s r) v → CommandTakesBack s r R t c v
  pub undoes_last_only : (t : Tally) (c : List ℕ) → eqb (kind_of c) 2 ≡ true → (command_of s r t c).outcome.answer ≡ Undone
      → (v : Transition) × (petri_net (net_of s)).is_transition v × BacktrackEnabled (petri_net (net_of s)) (history_in s r) v × CommandTakesBack s r R t c v
  -- Kind 3. Where the command can be read, it takes back the latest firing of a transition that is c-enabled (Definition 11)
  -- if its number is that firing's key; and it is answered Undone only then.
  pub undoes : (t : Tally) (c : List ℕ) → clear (read_checks c) ≡ true → eqb (kind_of c) 3 ≡ true
      → (v : Transition) → CausalEnabled (petri_net (net_of s)) (marks_in s r) (history_in s r) R v → Max (history_in s r v) (number_of c) → CommandTakesBack s r R t c v
  pub undoes_only : (t : Tally) (c : List ℕ) → eqb (kind_of c) 3 ≡ true → (command_of s r t c).outcome.answer ≡ Undone
      → (v : Transition) × (petri_net (net_of s)).is_transition v × CausalEnabled (petri_net (net_of s)) (marks_in s r) (history_in s r) R v
      × Max (history_in s r v) (number_of c) × CommandTakesBack s r R t c v
  -- and no other kind is answered Undone
  pub undoes_kinds : (t : Tally) (c : List ℕ) → (command_of s r t c).outcome.answer ≡ Undone → (eqb (kind_of c) 2 ≡ true) ⊎ (eqb (kind_of c) 3 ≡ true)
  -- ≺ is document 01's dependence: of higher key, with a common moved base
  pub order : (u : Transition) (i : ℕ) (v : Transition) (k : ℕ) → Iff (R u i v k) (later_with_common (held_in s r) u i v k)

-- The keys of firings. Definition 5 gives one above the highest of the history; 02, T-03 gives one above the highest that was
-- ever given.
pub record RecordKeysAsPublished (s : List ℕ) (r : Record) : Type 0 where
  -- a firing gives its transition one more key, one above the highest given, and changes no other; the answer has it
  pub fired : (t : Tally) (c : List ℕ) → (command_of s r t c).outcome.answer ≡ Fired
      → (u : Transition) (k : ℕ) → Iff (history_in s (record_after s r t c) u k) (keys_with (history_in s r) (transition_named c) (suc (given_in s r)) u k)
  pub answered : (t : Tally) (c : List ℕ) → (command_of s r t c).outcome.answer ≡ Fired → (command_of s r t c).outcome.key ≡ key (suc (given_in s r))
  -- the new key is above every key of the history
  pub above : (v : Transition) (k : ℕ) → history_in s r v k → k < suc (given_in s r)
  -- Definition 5 looks at the highest live key, 0 where none is live; a firing gives its history exactly where no higher key
  -- was given
  pub highest : Max (KeysAndZero (petri_net (net_of s)) (history_in s r)) (highest_live (held_in s r).lines).0
  pub definition5 : (t : Tally) (c : List ℕ) → (command_of s r t c).outcome.answer ≡ Fired → Iff
      (given_in s r ≡ (highest_live (held_in s r).lines).0)
      ((u : Transition) (k : ℕ) → Iff (history_in s (record_after s r t c) u k) (fired_keys (petri_net (net_of s)) (history_in s r) (transition_named c) u k))

-- ---- All of it, of every accepted sheet: its net is one of Definition 2 and meets Definition 20 without 3(2), with the published
-- cases at each place; a fresh record holds the chapter's initial state; and every record that a session can reach from a
-- fresh one, and every record that is handed in and passes refusal 10's test, does what section 4.1 says (Uncoupling) and,
-- where the net is well-formed by Definition 3, what chapter 3 says. The past of a record that is handed in is not known, and
-- its ≺ is what Definition 10 gives on the forward run of its live firings, each with its own key.

pub record FollowsPublished (s : List ℕ) : Type 0 where
  pub definition2 : Definition2 (petri_net (net_of s))
  -- Definition 20, without 3(2); the net is well-formed by Definition 3 exactly if no step of it breaks a bond
  pub well_formed20 : WellFormed20 (petri_net (net_of s))
  pub well_formed : Iff (WellFormed (petri_net (net_of s))) (breaks_nothing (net_of s) ≡ true)
  -- and a transition of it breaks none exactly if each of its in-bonds is an out-bond
  pub keeps : (v : Transition) → (petri_net (net_of s)).is_transition v → Iff (Keeps (petri_net (net_of s)) v) (breaks_none (arcs_of (net_of s) v) ≡ true)
  pub by_cases : ByCases (net_of s)
  pub uncouples_by_cases : UncouplesByCases (net_of s)
  pub initial : Initial (net_of s) (marks_in s (fresh_of s)) (history_in s (fresh_of s))
  pub sessions : WellFormed (petri_net (net_of s)) → (cs : List (List ℕ)) (t : Tally) → RecordAsPublished s (session_after s cs t).session (order_in s cs)
  pub sound : WellFormed (petri_net (net_of s)) → (r : Record) → sound_for s r ≡ true → RecordAsPublished s r (order_of_lines (net_of s) (held_in s r).lines)
  pub uncouples_sessions : (cs : List (List ℕ)) (t : Tally) → RecordUncouples s (session_after s cs t).session (order_in s cs)
  pub uncouples_sound : (r : Record) → sound_for s r ≡ true → RecordUncouples s r (order_of_lines (net_of s) (held_in s r).lines)
  pub keys : (cs : List (List ℕ)) (t : Tally) → RecordKeysAsPublished s (session_after s cs t).session
  pub sound_keys : (r : Record) → sound_for s r ≡ true → RecordKeysAsPublished s r
  -- the highest given is the highest of all keys in a session's answers, 0 where there are none; of a record that is handed in
  -- it is the number in it
  pub given : (cs : List (List ℕ)) (t : Tally) → Max (AnsweredAndZero (session_after s cs t).answers) (given_in s (session_after s cs t).session)

abbrev pub Demand2Published : Type 0
Demand2Published = (s : List ℕ) → clear (sheet_checks s) ≡ true → FollowsPublished s
