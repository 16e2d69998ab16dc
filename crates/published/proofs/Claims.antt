-- All that specs/Claims says, of every net that meets the sheet's rules; and of sheet B's net, whose states are seen to meet
-- the premises. Assumes nothing.
use mathlib.Core.Path.{◌≡◌, refl}
use mathlib.Core.Bool.{true}
use mathlib.Core.List.{[], ◌∷◌}
use native.Mathlib.Omega.{arith}
use Rattle.causal.specs.Runs.{Run}
use Rattle.causal.proofs.Runs.{run_join}
use Rattle.net.specs.Net.{Marking, Net, arcs_of}
use Rattle.net.specs.Rules.{net_rule}
use Rattle.net.specs.Firing.{fire, Fires}
use Rattle.net.specs.Checks.{clear}
use Rattle.net.specs.Journal.{Journal, line_of, enable_checks, new_line, fire_reply, undo_reply, begin, play}
use Rattle.net.specs.Marking.{Good}
use Rattle.net.specs.Cases.{net_b}
use Rattle.net.specs.declared.Transition.{Transition}
use Rattle.net.proofs.Rules.{start-good}
use Rattle.net.proofs.Keys.{Up, up-snoc}
use Rattle.net.proofs.Journal.{enabled-fires, Held, undo-held, played}
use Rattle.net.proofs.History.{sound-held}
use Rattle.net.proofs.Cases.{net_b-rule}
use Rattle.published.specs.Sets.{Iff}
use Rattle.published.specs.Nets.{WellFormed}
use Rattle.published.specs.Causal.{Order, once, no_order}
use Rattle.published.specs.Sheets.{petri_net, marks_of, history_of, order_after, order_of_lines}
use Rattle.published.specs.Uncouples.{Uncouples}
use Rattle.published.specs.Claims.{Initial, JournalAsPublished, Published}
use Rattle.published.proofs.Nets.{definition2, well-formed20, unbroken, none-broken, keeps-iff, well-formed-iff, is-marking, each-in-one-place}
use Rattle.published.proofs.Enabling.{enabled-iff}
use Rattle.published.proofs.Firing.{moved_out, fired-marks}
use Rattle.published.proofs.Enabling7.{enabled7-iff, enabled21-iff}
use Rattle.published.proofs.Firing22.{fired22-iff}
use Rattle.published.proofs.Sessions.{good-now}
use Rattle.published.proofs.Common.{chain_more, entry-common, chains, successors, entry-is-common}
use Rattle.published.proofs.Keys.{reversed-keys}
use Rattle.published.proofs.FiredKeys.{fired-keys, highest-given}
use Rattle.published.proofs.Order.{Agrees, fired-order, reversed-order, order_is}
use Rattle.published.proofs.LineOrder.{lines-order}
use Rattle.published.proofs.ByCases.{by_cases, uncouples-by-cases}
use Rattle.published.proofs.Causal.{undo-listed, reversed-marks, reversed24-marks, moved_back, undo-iff, last-iff}

pub swap : {X Y : Type 0} → Iff X Y → Iff Y X
swap (f, g) = (g, f)

pub through : {X Y Z : Type 0} → Iff X Y → Iff Y Z → Iff X Z
through (f, g) (h, k) = ((λ x. h (f x)), λ z. g (k z))

module _ (net : Net) (ok : net_rule net ≡ true) where
  fired-run : (j : Journal) → Held net j → (t : Transition) → clear (enable_checks net j.marking t) ≡ true
      → Run (Fires net) net.start (fire_reply net j t).journal.lines (fire_reply net j t).journal.marking
  fired-run j H t e =
      let z : Marking = fire net.bases (arcs_of net t) j.marking in
      run_join (Fires net) j.lines (new_line net j t ∷ []) net.start j.marking z H.run (z, enabled-fires net j.marking t e, refl)

  fired-up : (j : Journal) → Held net j → (t : Transition) → Up (fire_reply net j t).journal.lines
  fired-up j H t = let top = H.top in up-snoc j.lines (new_line net j t) (omega arith) H.up

  -- a well-formed net
  pub as-published : WellFormed (petri_net net) → (j : Journal) → Held net j → (R : Order) → Agrees net j R → JournalAsPublished net j R
  as-published W j H R A =
      let G : Good net j.marking = good-now net ok j H in
      let whole = none-broken net ok W in
      record {
        marking = is-marking net j.marking G;
        one_place = each-in-one-place net j.marking G;
        enabled = λ t. enabled-iff net ok j.marking G t (whole t);
        fires = λ t e. fired-marks net ok j.marking G t e (whole t (enabled-fires net j.marking t e).listed);
        moves = moved_out net ok j.marking G;
        last = last-iff net ok j H;
        order = λ u i t k. through (A u i t k) (entry-is-common net ok j H.run H.up whole u i t k);
        causal = undo-iff net ok j H R A;
        undoes = λ k e. reversed-marks net ok j H k e (whole (line_of k j.lines).transition (undo-listed net ok j H k e));
        moves_back = moved_back net ok j H;
        undone_keys = reversed-keys net ok j H;
        order_fired = λ t e u i v n. swap (through (fired-order net ok j H R A t e u i v n) (entry-is-common net ok (fire_reply net j t).journal (fired-run j H t e) (fired-up j H t) whole u i v n));
        order_undone = λ k e u i v n.
            let H' = undo-held net ok j k e H in
            swap (through (reversed-order net ok j H R A k e u i v n) (entry-is-common net ok (undo_reply net j k).journal H'.run H'.up whole u i v n));
      }

  -- every net
  pub uncouples : (j : Journal) → Held net j → (R : Order) → Agrees net j R → Uncouples net j R
  uncouples j H R A =
      let G : Good net j.marking = good-now net ok j H in
      let next = successors net ok j H.run H.up in
      record {
        marking = is-marking net j.marking G;
        one_place = each-in-one-place net j.marking G;
        enabled = enabled7-iff net ok j.marking G;
        definition21 = enabled21-iff net ok j.marking G;
        fires = fired22-iff net ok j.marking G;
        moves = moved_out net ok j.marking G;
        last = last-iff net ok j H;
        order = A;
        order_part = λ u i t k r. entry-common net ok j H.run H.up u i t k ((A u i t k).0 r);
        order_chains = λ u i t k. through ((λ c. chain_more (λ u i t k r. once ((A u i t k).0 r)) c), λ c. chain_more (λ u i t k r. once ((A u i t k).1 r)) c) (chains net ok j H.run H.up u i t k);
        order_next = λ u i. through ((λ (t, k, r). (t, k, (A u i t k).0 r)), λ (t, k, r). (t, k, (A u i t k).1 r)) (next u i);
        causal = undo-iff net ok j H R A;
        undoes = reversed24-marks net ok j H;
        moves_back = moved_back net ok j H;
        undone_keys = reversed-keys net ok j H;
        order_fired = λ t e u i v n. swap (fired-order net ok j H R A t e u i v n);
        order_undone = λ k e u i v n. swap (reversed-order net ok j H R A k e u i v n);
        keeps_enabled = λ t h K.
            let by = through (swap (enabled7-iff net ok j.marking G t)) (enabled-iff net ok j.marking G t (λ l. unbroken net ok t l K)) in
            ((λ D. (by.0 (h, D)).1), λ D. (by.1 (h, D)).1);
        keeps_fires = λ t e K x i. through (swap (fired22-iff net ok j.marking G t e x i)) (fired-marks net ok j.marking G t e (unbroken net ok t (enabled-fires net j.marking t e).listed K) x i);
        keeps_undoes = λ k e K x i. through (swap (reversed24-marks net ok j H k e x i)) (reversed-marks net ok j H k e (unbroken net ok (line_of k j.lines).transition (undo-listed net ok j H k e) K) x i);
      }

  pub initial-state : Initial net (marks_of net (begin net).marking) (history_of (begin net))
  initial-state =
      let G : Good net net.start = start-good net ok in
      record {
        start = λ x i. ((λ h. h), λ h. h);
        marking = is-marking net net.start G;
        one_place = each-in-one-place net net.start G;
        history = λ t k. ((λ (l, m, _, _). m), λ x. absurd x);
      }

  pub published : Published net
  published = record {
    definition2 = definition2 net ok;
    well_formed20 = well-formed20 net ok;
    well_formed = well-formed-iff net ok;
    keeps = keeps-iff net ok;
    by_cases = by_cases net;
    uncouples_by_cases = uncouples-by-cases net;
    initial = initial-state;
    states = λ W cs. as-published W (play net cs (begin net)) (played net ok cs) (order_after net cs (begin net) no_order) (order_is net ok cs);
    histories = λ W j h. as-published W j (sound-held net j h) (order_of_lines net j.lines) (lines-order net ok j (sound-held net j h));
    states_uncouple = λ cs. uncouples (play net cs (begin net)) (played net ok cs) (order_after net cs (begin net) no_order) (order_is net ok cs);
    histories_uncouple = λ j h. uncouples j (sound-held net j h) (order_of_lines net j.lines) (lines-order net ok j (sound-held net j h));
    keys = λ cs. fired-keys net ok (play net cs (begin net)) (played net ok cs);
    history_keys = λ j h. fired-keys net ok j (sound-held net j h);
    given = highest-given net;
  }

-- sheet B's net is well-formed by Definition 3, so that the claims that ask for it speak of it
pub well-formed-B : WellFormed (petri_net net_b)
well-formed-B = (well-formed-iff net_b net_b-rule).1 refl

pub published-B : Published net_b
published-B = published net_b net_b-rule
