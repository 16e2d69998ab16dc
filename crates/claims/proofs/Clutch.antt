-- A sheet with steps that uncouple (02, T-07), net's net_c as bytes: it is accepted, its net is not well-formed, and commands on it
-- that open a coupling, put it back, and keep one do what section 4.1 says. Assumes nothing.
use mathlib.Core.Path.{◌≡◌, refl, sym, ◌∙◌, ap, subst}
use mathlib.Core.Bool.{true, false}
use mathlib.Core.List.{List, [], ◌∷◌}
use Prim.Native.Nat.{ℕ}
use native.Mathlib.Omega.{arith}
use Rattle.causal.proofs.Tests.{both}
use Rattle.net.specs.Net as W
use Rattle.net.specs.Firing.{breaks_none}
use Rattle.net.specs.Net.{Net, has_bond, arcs_of, place}
use Rattle.net.specs.Checks.{clear}
use Rattle.net.specs.Journal.{Journal, transition, begin, act, play}
use Rattle.net.specs.Cases.{fire_of, undo_last, undo_of}
use Rattle.net.specs.Clutch.{net_c}
use Rattle.net.specs.declared.Bond.{Bond}
use Rattle.net.specs.declared.Transition.{Transition}
use Rattle.published.specs.Sets.{Iff, Item, bond, Max}
use Rattle.published.specs.Nets.{WellFormed}
use Rattle.published.specs.Forward.{Enabled, fired_marks}
use Rattle.published.specs.Backtracking.{BacktrackEnabled}
use Rattle.published.specs.Causal.{CausalEnabled}
use Rattle.published.specs.Uncoupling.{Keeps, Enabled7, fired22}
use Rattle.published.specs.Sheets.{petri_net, breaks_nothing}
use Rattle.format.specs.Parts.{part_of, transition_bytes}
use Rattle.format.specs.NetOf.{net_of}
use Rattle.sheet_head.specs.Conditions.{wrong_size, wrong_version, wrong_counts, wrong_pairs, wrong_start_places, wrong_start_bonds}
use Rattle.sheet_arcs.specs.Conditions.{wrong_width, wrong_entries}
use Rattle.sheet_bonds.specs.Conditions.{wrong_bonds}
use Rattle.sheet.specs.Checks.{sheet_checks}
use Rattle.sheet.proofs.Accepted.{promised}
use Rattle.tally.specs.declared.Tally.{Tally}
use Rattle.session.specs.Records.{held_in}
use Rattle.session.specs.Commands.{command_of}
use Rattle.session.specs.declared.Record.{Record}
use Rattle.commands.specs.Answers.{answer_of}
use Rattle.claims.specs.Sessions.{session_after}
use Rattle.claims.specs.States.{marks_in, history_in, order_in, record_after}
use Rattle.claims.specs.Uncoupling.{CommandFires22, CommandTakesBack24, RecordUncouples}
use Rattle.claims.specs.Published.{FollowsPublished}
use Rattle.claims.specs.Demands.{Demand3, SessionTotals}
use Rattle.claims.proofs.Records.{answer-is, journal-is}
use Rattle.claims.proofs.Sessions.{holds}
use Rattle.claims.proofs.Published.{session-passes}
use Rattle.claims.proofs.Demands.{demands}

-- header, pairs, start places, start couplings, transitions 0 to 5
abbrev pub sheet_c : List ℕ
sheet_c =
    1 ∷ 3 ∷ 4 ∷ 6
    ∷ 36 ∷ 0 ∷ 4 ∷ 0
    ∷ 40 ∷ 0 ∷ 4 ∷ 0
    ∷ 44 ∷ 0 ∷ 6 ∷ 0
    ∷ 50 ∷ 0 ∷ 11 ∷ 0
    ∷ 61 ∷ 0 ∷ 6 ∷ 0
    ∷ 67 ∷ 0 ∷ 16 ∷ 0
    ∷ 83 ∷ 0 ∷ 13 ∷ 0
    ∷ 96 ∷ 0 ∷ 9 ∷ 0
    ∷ 0 ∷ 0 ∷ 0 ∷ 0
    ∷ 0 ∷ 1 ∷ 1 ∷ 3
    ∷ 1 ∷ 0 ∷ 0 ∷ 1 ∷ 0 ∷ 0
    ∷ 2 ∷ 0 ∷ 1 ∷ 1 ∷ 1 ∷ 1 ∷ 2 ∷ 1 ∷ 0 ∷ 1 ∷ 0
    ∷ 1 ∷ 1 ∷ 2 ∷ 0 ∷ 0 ∷ 0
    ∷ 3 ∷ 0 ∷ 0 ∷ 0 ∷ 1 ∷ 0 ∷ 1 ∷ 2 ∷ 0 ∷ 1 ∷ 1 ∷ 0 ∷ 1 ∷ 1 ∷ 1 ∷ 2
    ∷ 2 ∷ 0 ∷ 0 ∷ 2 ∷ 1 ∷ 0 ∷ 2 ∷ 1 ∷ 0 ∷ 1 ∷ 1 ∷ 0 ∷ 1
    ∷ 2 ∷ 0 ∷ 0 ∷ 1 ∷ 1 ∷ 0 ∷ 2 ∷ 0 ∷ 0
    ∷ []

accepted-C : clear (sheet_checks sheet_c) ≡ true
unfolding sheet_checks wrong_size wrong_version wrong_counts wrong_pairs wrong_start_places wrong_start_bonds wrong_width wrong_entries wrong_bonds part_of transition_bytes
accepted-C = refl

sheet_c-net : net_of sheet_c ≡ net_c
unfolding net_of part_of transition_bytes
sheet_c-net = refl

pub published-C : FollowsPublished sheet_c
published-C = demands.published sheet_c accepted-C

pub not-well-formed-C : WellFormed (petri_net (net_of sheet_c)) → ⊥
not-well-formed-C W = both (breaks_nothing (net_of sheet_c)) (published-C.well_formed.0 W) (ap breaks_nothing sheet_c-net)

-- demand 3 and the totals of every list of commands on it
pub demand3-C : (cs : List (List ℕ)) (t : Tally) → Demand3 sheet_c cs t
demand3-C = demands.demand3 sheet_c accepted-C

pub totals-C : (cs : List (List ℕ)) → SessionTotals sheet_c cs
totals-C = demands.totals sheet_c accepted-C

-- ---- Sessions on it

abbrev record_c : List (List ℕ) → Tally → Record
record_c cs t = (session_after sheet_c cs t).session

abbrev after_c : List (List ℕ) → Tally → List ℕ → Record
after_c cs t c = record_after sheet_c (record_c cs t) t c

answer-C : (cs : List (List ℕ)) (t : Tally) (c : List ℕ) → (command_of sheet_c (record_c cs t) t c).outcome.answer ≡ answer_of (act net_c (play net_c cs (begin net_c)) c).answer
answer-C cs t c =
    let P = promised sheet_c accepted-C in
    answer-is sheet_c accepted-C P.rule (record_c cs t) (session-passes sheet_c accepted-C P.rule cs t) t c
    ∙ ap (λ (j : Journal). answer_of (act (net_of sheet_c) j c).answer) (holds sheet_c accepted-C P.rule cs t)
    ∙ ap (λ (n : Net). answer_of (act n (play n cs (begin n)) c).answer) sheet_c-net

held_after : (cs : List (List ℕ)) (t : Tally) (c : List ℕ) → held_in sheet_c (after_c cs t c) ≡ (act net_c (play net_c cs (begin net_c)) c).journal
held_after cs t c =
    let P = promised sheet_c accepted-C in
    journal-is sheet_c accepted-C P.rule (record_c cs t) (session-passes sheet_c accepted-C P.rule cs t) t c
    ∙ ap (λ (j : Journal). (act (net_of sheet_c) j c).journal) (holds sheet_c accepted-C P.rule cs t)
    ∙ ap (λ (n : Net). (act n (play n cs (begin n)) c).journal) sheet_c-net

shown : (cs : List (List ℕ)) (t : Tally) → RecordUncouples sheet_c (record_c cs t) (order_in sheet_c cs)
shown cs t = published-C.uncouples_sessions cs t

abbrev joint : Bond
joint = W.bond 0 1

abbrev closed : List (List ℕ)
closed = fire_of 0 ∷ []

abbrev opened : List (List ℕ)
opened = fire_of 0 ∷ fire_of 1 ∷ []

-- after 0, kind 1 fires transition 1, which opens 0-1
pub opens-C : (t : Tally) → Enabled7 (petri_net (net_of sheet_c)) (marks_in sheet_c (record_c closed t)) (transition 1) × CommandFires22 sheet_c (record_c closed t) (order_in sheet_c closed) t (fire_of 1) (transition 1)
opens-C t = let (_, _, D, F) = (shown closed t).fires_only t (fire_of 1) (answer-C closed t (fire_of 1)) in (D, F)

-- so that it is in no place, as Definition 22 has it
pub broken-C : (t : Tally) (x : ℕ) → fired22 (petri_net (net_of sheet_c)) (marks_in sheet_c (record_c closed t)) (transition 1) x (bond joint) → ⊥
broken-C t x h =
    let m = ((opens-C t).1.marking x (bond joint)).1 h in
    both false (sym (ap (λ (j : Journal). has_bond joint j.marking.bonds) (held_after closed t (fire_of 1))) ∙ m.0) refl

-- then kind 2 takes it back, and so does kind 3 of serial 2
pub last-C : (t : Tally) → (v : Transition) × (petri_net (net_of sheet_c)).is_transition v × BacktrackEnabled (petri_net (net_of sheet_c)) (history_in sheet_c (record_c opened t)) v
    × CommandTakesBack24 sheet_c (record_c opened t) (order_in sheet_c opened) t undo_last v
last-C t = (shown opened t).undoes_last_only t undo_last refl (answer-C opened t undo_last)

pub taken-back-C : (t : Tally) → (v : Transition) × (petri_net (net_of sheet_c)).is_transition v
    × CausalEnabled (petri_net (net_of sheet_c)) (marks_in sheet_c (record_c opened t)) (history_in sheet_c (record_c opened t)) (order_in sheet_c opened) v
    × Max (history_in sheet_c (record_c opened t) v) 2 × CommandTakesBack24 sheet_c (record_c opened t) (order_in sheet_c opened) t (undo_of 2) v
taken-back-C t = (shown opened t).undoes_only t (undo_of 2) refl (answer-C opened t (undo_of 2))

-- and 0-1 is in place 1 again
pub mended-C : (t : Tally) → marks_in sheet_c (after_c opened t undo_last) 1 (bond joint)
mended-C t = let e = held_after opened t undo_last in (ap (λ (j : Journal). has_bond joint j.marking.bonds) e, ap (λ (j : Journal). place j.marking 0) e)

-- transition 4 keeps 0-1: on this sheet too it is enabled by Definition 4, and gives the marking of Definition 5
keeps-4 : Keeps (petri_net (net_of sheet_c)) (transition 4)
keeps-4 = (published-C.keeps (transition 4) (subst (λ (n : Net). (petri_net n).is_transition (transition 4)) (sym sheet_c-net) (omega arith))).1 (ap (λ (n : Net). breaks_none (arcs_of n (transition 4))) sheet_c-net)

pub fires-4 : (t : Tally) → Enabled (petri_net (net_of sheet_c)) (marks_in sheet_c (record_c [] t)) (transition 4)
    × ((x : ℕ) (i : Item) → Iff (marks_in sheet_c (after_c [] t (fire_of 4)) x i) (fired_marks (petri_net (net_of sheet_c)) (marks_in sheet_c (record_c [] t)) (transition 4) x i))
fires-4 t =
    let (_, listed, D, F) = (shown [] t).fires_only t (fire_of 4) (answer-C [] t (fire_of 4)) in
    (((shown [] t).keeps_enabled (transition 4) listed keeps-4).0 D, F.keeps keeps-4)
