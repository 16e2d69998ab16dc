-- Commands do what the published definition does: on every record that passes refusal 10's test, and on every record that a
-- session can reach, which is such a one. Assumes an accepted sheet.
use mathlib.Core.Path.{◌≡◌, refl, sym, ◌∙◌, ap, subst, subst⁻¹}
use mathlib.Core.Logic.{inl, inr}
use mathlib.Core.Bool.{true, false}
use mathlib.Core.List.{List, [], ◌∷◌, map}
use Prim.Native.Nat.{ℕ, suc, ◌≤◌}
use lib.Dec.{eqb}
use Rattle.causal.specs.Lists.{Mem}
use Rattle.causal.proofs.Tests.{both}
use Rattle.net.specs.Rules.{net_rule}
use Rattle.net.specs.Checks.{clear}
use Rattle.net.specs.Journal as J
use Rattle.net.specs.Journal.{LiveLine, Journal, key, kind_of, number_of, highest_live, last_given, line_of, without, transition_named, key_named, read_checks, undo_checks, new_line, begin, play, answers}
use Rattle.net.specs.declared.Key.{Key}
use Rattle.net.specs.declared.Transition.{Transition}
use Rattle.net.proofs.Journal.{Held, begin-held, played}
use Rattle.published.specs.Sets.{Iff, Max}
use Rattle.published.specs.Nets.{WellFormed}
use Rattle.published.specs.Forward.{fired_marks, keys_with, fired_keys}
use Rattle.published.specs.Backtracking.{reversed_marks, reversed_keys}
use Rattle.published.specs.Causal.{Order, fired_order, reversed_order}
use Rattle.published.specs.Sheets.{petri_net, marks_of, history_of, GivenAndZero, order_of_lines, later_with_common}
use Rattle.published.specs.Claims as P
use Rattle.published.proofs.FiredKeys.{fired-keys}
use Rattle.published.proofs.Order.{Agrees, order_is}
use Rattle.published.proofs.LineOrder.{lines-order}
use Rattle.published.proofs.Claims.{as-published, published}
use Rattle.format.specs.NetOf.{net_of}
use Rattle.sheet.specs.Checks.{sheet_checks}
use Rattle.sheet.proofs.Accepted.{promised}
use Rattle.tally.specs.declared.Tally.{Tally}
use Rattle.session.specs.Records.{held_in, sound_for}
use Rattle.session.specs.Commands.{fresh_of}
use Rattle.session.specs.Runs.{Answered, answered}
use Rattle.session.specs.declared.Record.{Record}
use Rattle.session.proofs.Steps.{held_back, follows-fresh}
use Rattle.claims.specs.Sessions.{session_after}
use Rattle.claims.specs.States.{marks_in, history_in, order_in}
use Rattle.claims.specs.Published.{given_in, fired_as, AnsweredAndZero, CommandFires, CommandTakesBack, RecordAsPublished, RecordKeysAsPublished, FollowsPublished, Demand2Published}
use Rattle.claims.proofs.Records.{journal-passes, passes-held}
use Rattle.claims.proofs.Sessions.{holds}
use Rattle.claims.proofs.Replies.{is_fired, not-one, key-two, key-three, FiredNow, UndoneNow, fires-if, fired-only, undoes-if, undone-only, undone-kinds}
use Rattle.claims.proofs.Uncoupling.{record-uncouples}

-- ---- the keys in a session's answers are those in the journal's

was-fired : (a : J.Answer) (k : ℕ) → fired_as k ≡ answered a → J.fired (key k) ≡ a
was-fired (J.fired h) k e = ap (λ (x : Answered). J.fired x.key) e
was-fired (J.undone h) k e = both false (sym (ap (λ (x : Answered). is_fired x.answer) e)) refl
was-fired (J.refused n) k e = both false (sym (ap (λ (x : Answered). is_fired x.answer) e)) refl

answered-to : (rs : List J.Answer) (k : ℕ) → Mem (J.fired (key k)) rs → Mem (fired_as k) (map answered rs)
answered-to [] k m = absurd m
answered-to (a ∷ rs) k (inl e) = inl (ap answered e)
answered-to (a ∷ rs) k (inr m) = inr (answered-to rs k m)

answered-from : (rs : List J.Answer) (k : ℕ) → Mem (fired_as k) (map answered rs) → Mem (J.fired (key k)) rs
answered-from [] k m = absurd m
answered-from (a ∷ rs) k (inl e) = inl (was-fired a k e)
answered-from (a ∷ rs) k (inr m) = inr (answered-from rs k m)

highest-answered : (rs : List J.Answer) (g : ℕ) → Max (GivenAndZero rs) g → Max (AnsweredAndZero (map answered rs)) g
highest-answered rs g (x, f) = (to x, λ k h. below k h)
  where
    to : GivenAndZero rs g → AnsweredAndZero (map answered rs) g
    to (inl e) = inl e
    to (inr m) = inr (answered-to rs g m)

    below : (k : ℕ) → AnsweredAndZero (map answered rs) k → k ≤ g
    below k (inl e) = f k (inl e)
    below k (inr m) = f k (inr (answered-from rs k m))

-- ---- a record that passes the test

module _ (s : List ℕ) (accepted : clear (sheet_checks s) ≡ true) (ok : net_rule (net_of s) ≡ true) (r : Record) (passes : sound_for s r ≡ true) where
  abbrev j : Journal
  j = held_in s r

  H : Held (net_of s) (held_in s r)
  H = passes-held s accepted ok r passes

  keys-held : RecordKeysAsPublished s r
  keys-held =
      let K : P.JournalKeysAsPublished (net_of s) (held_in s r) = fired-keys (net_of s) ok j H in
      record {
        fired = λ t c e u k. subst⁻¹ (λ (x : Journal). Iff (history_of x u k) (keys_with (history_in s r) (transition_named c) (suc (given_in s r)) u k)) (fired-only s accepted ok r passes t c e).1.after (K.fired (transition_named c) u k);
        answered = λ t c e. sym (fired-only s accepted ok r passes t c e).1.key;
        above = K.above;
        highest = K.highest;
        definition5 = λ t c e. subst⁻¹
            (λ (x : Journal). Iff (given_in s r ≡ (highest_live (held_in s r).lines).0) ((u : Transition) (k : ℕ) → Iff (history_of x u k) (fired_keys (petri_net (net_of s)) (history_in s r) (transition_named c) u k)))
            (fired-only s accepted ok r passes t c e).1.after (K.definition5 (transition_named c));
      }

  module _ (W : WellFormed (petri_net (net_of s))) (R : Order) (A : Agrees (net_of s) (held_in s r) R) where
    shown : P.JournalAsPublished (net_of s) (held_in s r) R
    shown = as-published (net_of s) ok W (held_in s r) H R A

    fires-to : (t : Tally) (c : List ℕ) → FiredNow s r t c → CommandFires s r R t c (transition_named c)
    fires-to t c F =
        let v : Transition = transition_named c in
        let e = F.enabled in
        record {
          answer = F.answer;
          marking = λ x i. subst⁻¹ (λ (h : Journal). Iff (marks_of (net_of s) h.marking x i) (fired_marks (petri_net (net_of s)) (marks_in s r) v x i)) F.after (shown.fires v e x i);
          line = (new_line (net_of s) j v, ap (λ (h : Journal). h.lines) F.after, record { transition = refl; key = F.key; moved = shown.moves v e });
          order = λ u i w k. subst⁻¹ (λ (h : Journal). Iff (later_with_common h u i w k) (fired_order (petri_net (net_of s)) (marks_in s r) (history_of h) R v u i w k)) F.after (shown.order_fired v e u i w k);
        }

    takes_back : (t : Tally) (c : List ℕ) (n : Key) → UndoneNow s r t c n → CommandTakesBack s r R t c (line_of n (held_in s r).lines).transition
    takes_back t c n U =
        let l : LiveLine = line_of n j.lines in
        let v : Transition = l.transition in
        let e = U.undoable in
        record {
          answer = U.answer;
          marking = λ x i. subst⁻¹ (λ (h : Journal). Iff (marks_of (net_of s) h.marking x i) (reversed_marks (petri_net (net_of s)) (marks_in s r) v x i)) U.after (shown.undoes n e x i);
          keys = λ u k. subst⁻¹ (λ (h : Journal). Iff (history_of h u k) (reversed_keys (history_in s r) v u k)) U.after (shown.undone_keys n e u k);
          line = (
            l,
            U.live,
            ap (λ (h : Journal). h.lines) U.after ∙ ap (λ (k : Key). without k j.lines) (sym U.own),
            record { transition = refl; key = U.own ∙ U.key; moved = shown.moves_back n e },
          );
          order = λ u i w k. subst⁻¹ (λ (h : Journal). Iff (later_with_common h u i w k) (reversed_order (history_in s r) R v u i w k)) U.after (shown.order_undone n e u i w k);
        }

    -- the firing of a key that neither 19 nor 20 refuses
    by_key : (t : Tally) (c : List ℕ) (k : Key) (v : Transition) → clear (read_checks c) ≡ true → eqb (kind_of c) 1 ≡ false → key_named j c ≡ k
        → (clear (undo_checks j k) ≡ true) × ((line_of k j.lines).transition ≡ v) → CommandTakesBack s r R t c v
    by_key t c k v read q same (e, w) = subst (CommandTakesBack s r R t c) w (takes_back t c k (undoes-if s accepted ok r passes t c k read q same e))

    pub record-published : RecordAsPublished s r R
    record-published = record {
      marking = shown.marking;
      one_place = shown.one_place;
      fires = λ t c read one space D. fires-to t c (fires-if s accepted ok r passes t c read one space ((shown.enabled (transition_named c)).1 D));
      fires_only = λ t c a.
          let (q, F) = fired-only s accepted ok r passes t c a in
          let (listed, D) = (shown.enabled (transition_named c)).0 F.enabled in
          (q, listed, D, fires-to t c F);
      undoes_last = λ t c read two v D. by_key t c (highest_live j.lines) v read (not-one s j c 2 two refl) (key-two s j c two) ((shown.last v).1 D);
      undoes_last_only = λ t c two a.
          let k : Key = highest_live j.lines in
          let U = undone-only s accepted ok r passes t c k (key-two s j c two) a in
          ((line_of k j.lines).transition, U.listed, (shown.last (line_of k j.lines).transition).0 (U.undoable, refl), takes_back t c k U);
      undoes = λ t c read three v D x. by_key t c (key (number_of c)) v read (not-one s j c 3 three refl) (key-three s j c three) ((shown.causal (key (number_of c)) v).1 (D, x));
      undoes_only = λ t c three a.
          let k : Key = key (number_of c) in
          let U = undone-only s accepted ok r passes t c k (key-three s j c three) a in
          let (D, x) = (shown.causal k (line_of k j.lines).transition).0 (U.undoable, refl) in
          ((line_of k j.lines).transition, U.listed, D, x, takes_back t c k U);
      undoes_kinds = undone-kinds s accepted ok r passes;
      order = shown.order;
    }

-- ---- sessions, and sound records

module _ (s : List ℕ) (accepted : clear (sheet_checks s) ≡ true) (ok : net_rule (net_of s) ≡ true) where
  -- a session's record passes the test
  pub session-passes : (cs : List (List ℕ)) (t : Tally) → sound_for s (session_after s cs t).session ≡ true
  session-passes cs t = ap (sound_for s) (follows-fresh s accepted cs t).session ∙ journal-passes s accepted ok (play (net_of s) cs (begin (net_of s))) (played (net_of s) ok cs)

  -- ≺ after the commands is that of the record
  order-held : (cs : List (List ℕ)) (t : Tally) → Agrees (net_of s) (held_in s (session_after s cs t).session) (order_in s cs)
  order-held cs t = subst⁻¹ (λ (x : Journal). Agrees (net_of s) x (order_in s cs)) (holds s accepted ok cs t) (order_is (net_of s) ok cs)

  fresh_holds : held_in s (fresh_of s) ≡ begin (net_of s)
  unfolding fresh_of
  fresh_holds = held_back s accepted (begin (net_of s)) (begin-held (net_of s) ok)

  pub follows-published : FollowsPublished s
  follows-published =
      let N : P.Published (net_of s) = published (net_of s) ok in
      record {
        definition2 = N.definition2;
        well_formed20 = N.well_formed20;
        well_formed = N.well_formed;
        keeps = N.keeps;
        by_cases = N.by_cases;
        uncouples_by_cases = N.uncouples_by_cases;
        initial = subst⁻¹ (λ (x : Journal). P.Initial (net_of s) (marks_of (net_of s) x.marking) (history_of x)) fresh_holds N.initial;
        sessions = λ W cs t. record-published s accepted ok (session_after s cs t).session (session-passes cs t) W (order_in s cs) (order-held cs t);
        sound = λ W r h. record-published s accepted ok r h W (order_of_lines (net_of s) (held_in s r).lines) (lines-order (net_of s) ok (held_in s r) (passes-held s accepted ok r h));
        uncouples_sessions = λ cs t. record-uncouples s accepted ok (session_after s cs t).session (session-passes cs t) (order_in s cs) (order-held cs t);
        uncouples_sound = λ r h. record-uncouples s accepted ok r h (order_of_lines (net_of s) (held_in s r).lines) (lines-order (net_of s) ok (held_in s r) (passes-held s accepted ok r h));
        keys = λ cs t. keys-held s accepted ok (session_after s cs t).session (session-passes cs t);
        sound_keys = λ r h. keys-held s accepted ok r h;
        given = λ cs t. subst⁻¹ (λ (x : Journal). Max (AnsweredAndZero (session_after s cs t).answers) (last_given x).0) (holds s accepted ok cs t)
            (subst⁻¹ (λ (rs : List Answered). Max (AnsweredAndZero rs) (last_given (play (net_of s) cs (begin (net_of s)))).0) (follows-fresh s accepted cs t).answers
            (highest-answered (answers (net_of s) cs (begin (net_of s))) (last_given (play (net_of s) cs (begin (net_of s)))).0 (N.given cs)));
      }

pub demand2-published : Demand2Published
demand2-published s accepted = follows-published s accepted (promised s accepted).rule
