-- Commands do what section 4.1 says, on sheets of both sorts (02, T-07): on every record that passes refusal 10's test.
-- Assumes an accepted sheet.
use mathlib.Core.Path.{◌≡◌, refl, sym, ◌∙◌, ap, subst, subst⁻¹}
use mathlib.Core.Bool.{true, false}
use mathlib.Core.List.{List}
use Prim.Native.Nat.{ℕ}
use lib.Dec.{eqb}
use Rattle.net.specs.Rules.{net_rule}
use Rattle.net.specs.Checks.{clear}
use Rattle.net.specs.Journal.{LiveLine, Journal, key, kind_of, number_of, highest_live, line_of, without, transition_named, key_named, read_checks, undo_checks, new_line}
use Rattle.net.specs.declared.Key.{Key}
use Rattle.net.specs.declared.Transition.{Transition}
use Rattle.net.proofs.Journal.{Held}
use Rattle.published.specs.Sets.{Iff}
use Rattle.published.specs.Forward.{fired_marks}
use Rattle.published.specs.Backtracking.{reversed_marks, reversed_keys}
use Rattle.published.specs.Causal.{Order, fired_order, reversed_order}
use Rattle.published.specs.Uncoupling.{fired22, reversed24}
use Rattle.published.specs.Sheets.{petri_net, marks_of, history_of, later_with_entry}
use Rattle.published.specs.Uncouples.{Uncouples}
use Rattle.published.proofs.Order.{Agrees}
use Rattle.published.proofs.Claims.{through, uncouples}
use Rattle.format.specs.NetOf.{net_of}
use Rattle.sheet.specs.Checks.{sheet_checks}
use Rattle.tally.specs.declared.Tally.{Tally}
use Rattle.session.specs.Records.{held_in, sound_for}
use Rattle.session.specs.declared.Record.{Record}
use Rattle.claims.specs.States.{marks_in, history_in}
use Rattle.claims.specs.Uncoupling.{CommandFires22, CommandTakesBack24, RecordUncouples}
use Rattle.claims.proofs.Records.{passes-held}
use Rattle.claims.proofs.Replies.{not-one, key-two, key-three, FiredNow, UndoneNow, fires-if, fired-only, undoes-if, undone-only, undone-kinds}

module _ (s : List ℕ) (accepted : clear (sheet_checks s) ≡ true) (ok : net_rule (net_of s) ≡ true) (r : Record) (passes : sound_for s r ≡ true) where
  abbrev j : Journal
  j = held_in s r

  H : Held (net_of s) (held_in s r)
  H = passes-held s accepted ok r passes

  module _ (R : Order) (A : Agrees (net_of s) (held_in s r) R) where
    shown : Uncouples (net_of s) (held_in s r) R
    shown = uncouples (net_of s) ok (held_in s r) H R A

    fires-to : (t : Tally) (c : List ℕ) → FiredNow s r t c → CommandFires22 s r R t c (transition_named c)
    fires-to t c F =
        let v : Transition = transition_named c in
        let e = F.enabled in
        record {
          answer = F.answer;
          marking = λ x i. subst⁻¹ (λ (h : Journal). Iff (marks_of (net_of s) h.marking x i) (fired22 (petri_net (net_of s)) (marks_in s r) v x i)) F.after (shown.fires v e x i);
          keeps = λ K x i. subst⁻¹ (λ (h : Journal). Iff (marks_of (net_of s) h.marking x i) (fired_marks (petri_net (net_of s)) (marks_in s r) v x i)) F.after
              (through (shown.fires v e x i) (shown.keeps_fires v e K x i));
          line = (new_line (net_of s) j v, ap (λ (h : Journal). h.lines) F.after, record { transition = refl; key = F.key; moved = shown.moves v e });
          order = λ u i w k. subst⁻¹ (λ (h : Journal). Iff (later_with_entry (net_of s) h u i w k) (fired_order (petri_net (net_of s)) (marks_in s r) (history_of h) R v u i w k)) F.after (shown.order_fired v e u i w k);
        }

    takes_back : (t : Tally) (c : List ℕ) (n : Key) → UndoneNow s r t c n → CommandTakesBack24 s r R t c (line_of n (held_in s r).lines).transition
    takes_back t c n U =
        let l : LiveLine = line_of n j.lines in
        let v : Transition = l.transition in
        let e = U.undoable in
        record {
          answer = U.answer;
          marking = λ x i. subst⁻¹ (λ (h : Journal). Iff (marks_of (net_of s) h.marking x i) (reversed24 (petri_net (net_of s)) (marks_in s r) v x i)) U.after (shown.undoes n e x i);
          keeps = λ K x i. subst⁻¹ (λ (h : Journal). Iff (marks_of (net_of s) h.marking x i) (reversed_marks (petri_net (net_of s)) (marks_in s r) v x i)) U.after
              (through (shown.undoes n e x i) (shown.keeps_undoes n e K x i));
          keys = λ u k. subst⁻¹ (λ (h : Journal). Iff (history_of h u k) (reversed_keys (history_in s r) v u k)) U.after (shown.undone_keys n e u k);
          line = (
            l,
            U.live,
            ap (λ (h : Journal). h.lines) U.after ∙ ap (λ (k : Key). without k j.lines) (sym U.own),
            record { transition = refl; key = U.own ∙ U.key; moved = shown.moves_back n e },
          );
          order = λ u i w k. subst⁻¹ (λ (h : Journal). Iff (later_with_entry (net_of s) h u i w k) (reversed_order (history_in s r) R v u i w k)) U.after (shown.order_undone n e u i w k);
        }

    -- the firing of a key that neither 19 nor 20 refuses
    by_key : (t : Tally) (c : List ℕ) (k : Key) (v : Transition) → clear (read_checks c) ≡ true → eqb (kind_of c) 1 ≡ false → key_named j c ≡ k
        → (clear (undo_checks j k) ≡ true) × ((line_of k j.lines).transition ≡ v) → CommandTakesBack24 s r R t c v
    by_key t c k v read q same (e, w) = subst (CommandTakesBack24 s r R t c) w (takes_back t c k (undoes-if s accepted ok r passes t c k read q same e))

    pub record-uncouples : RecordUncouples s r R
    record-uncouples = record {
      marking = shown.marking;
      one_place = shown.one_place;
      fires = λ t c read one space D. fires-to t c (fires-if s accepted ok r passes t c read one space ((shown.enabled (transition_named c)).1 D));
      fires_only = λ t c a.
          let (q, F) = fired-only s accepted ok r passes t c a in
          let (listed, D) = (shown.enabled (transition_named c)).0 F.enabled in
          (q, listed, D, fires-to t c F);
      undoes_last = λ t c read two v D. by_key t c (highest_live j.lines) v read (not-one s j c 2 two refl) (key-two s j c two) ((shown.last v).1 D);
      undoes_last_only = λ t c two a.
          let k : Key = highest_live j.lines in
          let U = undone-only s accepted ok r passes t c k (key-two s j c two) a in
          ((line_of k j.lines).transition, U.listed, (shown.last (line_of k j.lines).transition).0 (U.undoable, refl), takes_back t c k U);
      undoes = λ t c read three v D x. by_key t c (key (number_of c)) v read (not-one s j c 3 three refl) (key-three s j c three) ((shown.causal (key (number_of c)) v).1 (D, x));
      undoes_only = λ t c three a.
          let k : Key = key (number_of c) in
          let U = undone-only s accepted ok r passes t c k (key-three s j c three) a in
          let (D, x) = (shown.causal k (line_of k j.lines).transition).0 (U.undoable, refl) in
          ((line_of k j.lines).transition, U.listed, D, x, takes_back t c k U);
      undoes_kinds = undone-kinds s accepted ok r passes;
      order = shown.order;
      order_part = shown.order_part;
      order_chains = shown.order_chains;
      order_next = shown.order_next;
      definition21 = shown.definition21;
      keeps_enabled = shown.keeps_enabled;
    }
