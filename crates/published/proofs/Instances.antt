-- Document 01's marked cases by chapter 3's definitions, on sheet B's net: the premises of the claims are met there, and so
-- are their opposites. Assumes nothing.
use mathlib.Core.Path.{◌≡◌, refl, sym, ◌∙◌, ap}
use mathlib.Core.Logic.{inl, inr}
use mathlib.Core.Bool.{true, false}
use mathlib.Core.List.{List, [], ◌∷◌}
use Prim.Native.Nat.{ℕ, ◌≤◌}
use native.Mathlib.Omega.{arith}
use lib.Dec.{eqb}
use Rattle.causal.proofs.Tests.{both}
use Rattle.net.specs.Checks.{clear}
use Rattle.net.specs.Journal.{LiveLine, Journal, transition, key, begin, play, enable_checks, undo_checks, fire_reply}
use Rattle.net.specs.Cases.{net_b, fire_of, undo_of}
use Rattle.net.specs.declared.Transition.{Transition}
use Rattle.published.specs.Sets.{Iff, base, minus, Max}
use Rattle.published.specs.Nets.{PetriNet}
use Rattle.published.specs.States.{Marks, Somewhere}
use Rattle.published.specs.Forward.{Enabled, leaves, fired_marks, fired_keys}
use Rattle.published.specs.Backtracking.{BacktrackEnabled, leaves_back, reversed_marks}
use Rattle.published.specs.Causal.{no_order, CausalEnabled}
use Rattle.published.specs.Sheets.{petri_net, marks_of, history_of, order_after, order_of_lines}
use Rattle.published.specs.Claims.{JournalAsPublished}
use Rattle.published.proofs.Claims.{well-formed-B, published-B}

abbrev N : PetriNet
N = petri_net net_b

-- the state after some commands
abbrev after : List (List ℕ) → Journal
after cs = play net_b cs (begin net_b)

shown : (cs : List (List ℕ)) → JournalAsPublished net_b (play net_b cs (begin net_b)) (order_after net_b cs (begin net_b) no_order)
shown cs = published-B.states well-formed-B cs

abbrev start : Marks
start = marks_of net_b net_b.start

-- ---- M1: transition 0 is enabled, and takes base 3, which is bonded to base 2, along to place 1

pub enabled-M1 : Enabled N start (transition 0)
enabled-M1 = (((shown []).enabled (transition 0)).0 refl).1

pub carried-M1 : fired_marks N start (transition 0) 1 (base 3)
carried-M1 = ((shown []).fires (transition 0) refl 1 (base 3)).0 (omega arith, refl)

-- base 3 leaves with it, though no entry names it; base 1 does not
pub leaves-M1 : Somewhere (leaves N start (transition 0)) 3
leaves-M1 = ((shown []).moves (transition 0) refl 3).0 refl

pub stays-M1 : Somewhere (leaves N start (transition 0)) 1 → ⊥
stays-M1 h = both false (((shown []).moves (transition 0) refl 1).1 h) refl

-- ---- M7 to M10: transitions 1, 5, 4 and 3 are not enabled

not-enabled : (n : ℕ) → clear (enable_checks net_b net_b.start (transition n)) ≡ false → N.is_transition (transition n) → Enabled N start (transition n) → ⊥
not-enabled n e h D = both (clear (enable_checks net_b net_b.start (transition n))) (((shown []).enabled (transition n)).1 (h, D)) e

pub not-enabled-M7 : Enabled N start (transition 1) → ⊥
not-enabled-M7 = not-enabled 1 refl (omega arith)

pub not-enabled-M8 : Enabled N start (transition 5) → ⊥
not-enabled-M8 = not-enabled 5 refl (omega arith)

pub not-enabled-M9 : Enabled N start (transition 4) → ⊥
not-enabled-M9 = not-enabled 4 refl (omega arith)

pub not-enabled-M10 : Enabled N start (transition 3) → ⊥
not-enabled-M10 = not-enabled 3 refl (omega arith)

-- ---- After M4: transition 0 is not c-enabled, since transition 1 depends on it (as M3 has it); transition 1 is (M5), though
-- transition 2 was fired after it; and transition 2 is bt-enabled

abbrev firings : List (List ℕ)
firings = fire_of 0 ∷ fire_of 1 ∷ fire_of 2 ∷ []

pub not-causal-M3 : CausalEnabled N (marks_of net_b (after firings).marking) (history_of (after firings)) (order_after net_b firings (begin net_b) no_order) (transition 0) → ⊥
not-causal-M3 D = both (clear (undo_checks (after firings) (key 1))) (((shown firings).causal (key 1) (transition 0)).1 (D, latest)).0 refl
  where
    below : (k : ℕ) → history_of (after firings) (transition 0) k → k ≤ 1
    below k (l, inl m, p, q) = rw (← q, m) (omega arith)
    below k (l, inr (inl m), p, q) = absurd (both false (ap (λ (t : Transition). eqb t.0 1) (sym p ∙ ap (λ (x : LiveLine). x.transition) m)) refl)
    below k (l, inr (inr (inl m)), p, q) = absurd (both false (ap (λ (t : Transition). eqb t.0 2) (sym p ∙ ap (λ (x : LiveLine). x.transition) m)) refl)
    below k (l, inr (inr (inr m)), p, q) = absurd m

    latest : Max (history_of (after firings) (transition 0)) 1
    latest = ((_, inl refl, refl, refl), below)

pub causal-M5 : CausalEnabled N (marks_of net_b (after firings).marking) (history_of (after firings)) (order_after net_b firings (begin net_b) no_order) (transition 1)
causal-M5 = (((shown firings).causal (key 2) (transition 1)).0 (refl, refl)).0

pub returned-M5 : reversed_marks N (marks_of net_b (after firings).marking) (transition 1) 1 (base 2)
returned-M5 = ((shown firings).undoes (key 2) refl 1 (base 2)).0 (omega arith, refl)

-- base 0, which no entry of transition 1 names, goes back with it
pub leaves-M5 : Somewhere (leaves_back N (marks_of net_b (after firings).marking) (transition 1)) 0
leaves-M5 = ((shown firings).moves_back (key 2) refl 0).0 refl

pub last-M4 : BacktrackEnabled N (history_of (after firings)) (transition 2)
last-M4 = ((shown firings).last (transition 2)).0 (refl, refl)

-- ---- The same lines handed in with other keys, 5, 9 and 200, the highest given being 300: a sound history, in which transition
-- 1's firing still depends on transition 0's by Definition 10, and transition 1 is c-enabled; a firing gets the key 301

abbrev handed : Journal
handed = record {
  marking = (after firings).marking;
  lines =
      record { transition = transition 0; key = key 5; moved = true ∷ false ∷ true ∷ true ∷ [] }
      ∷ record { transition = transition 1; key = key 9; moved = true ∷ false ∷ true ∷ true ∷ [] }
      ∷ record { transition = transition 2; key = key 200; moved = false ∷ true ∷ false ∷ false ∷ [] }
      ∷ [];
  given = key 300;
}

shown-handed : JournalAsPublished net_b handed (order_of_lines net_b handed.lines)
shown-handed = published-B.histories well-formed-B handed refl

pub depends-handed : order_of_lines net_b handed.lines (transition 0) 5 (transition 1) 9
depends-handed = (shown-handed.order (transition 0) 5 (transition 1) 9).1 (_, _, inl refl, inr (inl refl), refl, refl, refl, refl, omega arith, (0, refl, refl))

pub causal-handed : CausalEnabled N (marks_of net_b handed.marking) (history_of handed) (order_of_lines net_b handed.lines) (transition 1)
causal-handed = ((shown-handed.causal (key 9) (transition 1)).0 (refl, refl)).0

pub key-handed : history_of (fire_reply net_b handed (transition 2)).journal (transition 2) 301
key-handed = ((published-B.history_keys handed refl).fired (transition 2) (transition 2) 301).1 (inr (refl, refl))

-- ---- Keys (02, T-03): the first is Definition 5's; after a firing that was taken back the next is 2, where Definition 5 has 1

pub key-M1 : fired_keys N (history_of (begin net_b)) (transition 0) (transition 0) 1
key-M1 = (((published-B.keys []).definition5 (transition 0)).0 refl (transition 0) 1).0 (_, inl refl, refl, refl)

abbrev taken_back : List (List ℕ)
taken_back = fire_of 0 ∷ undo_of 1 ∷ []

pub key-again : history_of (fire_reply net_b (after taken_back) (transition 0)).journal (transition 0) 2
key-again = ((published-B.keys taken_back).fired (transition 0) (transition 0) 2).1 (inr (refl, refl))

pub not-definition5 : ((u : Transition) (k : ℕ) → Iff (history_of (fire_reply net_b (after taken_back) (transition 0)).journal u k) (fired_keys N (history_of (after taken_back)) (transition 0) u k)) → ⊥
not-definition5 f = let e : ◌≡◌ {A = ℕ} 1 0 = ((published-B.keys taken_back).definition5 (transition 0)).1 f in omega arith

-- ---- The reading of Definition 5: transition 2 takes base 1 from place 0 and puts it there. By the first of the chapter's
-- cases alone, place 0 would lose it; taken out first and then put in, it is there.

pub lost-by-first-case : minus (start 0) (leaves N start (transition 2) 0) (base 1) → ⊥
lost-by-first-case (h, out) = out (1, (tt, _, inl refl, refl, refl), inl (h, refl))

pub kept-by-reading : fired_marks N start (transition 2) 0 (base 1)
kept-by-reading = ((shown []).fires (transition 2) refl 0 (base 1)).0 (omega arith, refl)
