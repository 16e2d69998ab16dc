-- Demand 3 on the journal: the lines left after any list of commands run forward to the session's marking, in their own
-- order and in every reordering. Assumes that the net meets the sheet's rules.
use mathlib.Core.Path.{◌≡◌, refl, sym, ◌∙◌, ap}
use mathlib.Core.Bool.{Bool, true}
use mathlib.Core.List.{List, [], ◌∷◌, ◌++◌, append_assoc, append-nil}
use Prim.Native.Nat.{ℕ, suc, ◌<◌, ◌≤◌, ◌+◌, ◌*◌, ◌/◌, ◌%◌}
use native.Mathlib.Nat.{zero-add}
use native.Mathlib.Omega.{arith}
use lib.ListN.{length, length-append}
use borrow.Author.Tests.{lt-leb}
use Rattle.causal.specs.Reorderings.{Reordering}
use Rattle.causal.specs.Runs.{Run}
use Rattle.causal.proofs.Reorderings.{reordering-swapped, swapped-length, reordering-same}
use Rattle.causal.proofs.Runs.{swapped-run}
use Rattle.net.specs.Limits.{max_live, max_key}
use Rattle.net.specs.Tests.{pick}
use Rattle.net.specs.Net.{Marking, Net, arcs_of}
use Rattle.net.specs.Rules.{net_rule}
use Rattle.net.specs.Marking.{Good}
use Rattle.net.specs.Firing.{in_set, undo, Fires}
use Rattle.net.specs.Checks.{clear, first}
use Rattle.net.specs.Journal.{LiveLine, Journal, Reply, fired, transition, key, last_given, fire_checks, fire_reply, refuse, begin, act, play, answers}
use Rattle.net.specs.Claims.{fire_command, fire_commands, numbered, all_fired}
use Rattle.net.specs.declared.Transition.{Transition}
use Rattle.net.proofs.Claimed.{Forward, LinesRunForward}
use Rattle.net.proofs.Moves.{view}
use Rattle.net.proofs.Laws.{laws}
use Rattle.net.proofs.Rules.{fits, start-good}
use Rattle.net.proofs.Keys.{up-distinct}
use Rattle.net.proofs.Journal.{Held, played}

-- ---- a command of kind 1

pub number-bytes : (n : ℕ) → n % 256 + 256 * (n / 256) ≡ n
number-bytes n = omega arith

module _ (net : Net) (j : Journal) where
  fires-number : (n : ℕ) → act net j (fire_command (transition n)) ≡ pick (clear (fire_checks net j (transition n))) (fire_reply net j (transition n)) (refuse j (first (fire_checks net j (transition n))))
  fires-number n = ap
      (λ (k : ℕ). pick (clear (fire_checks net j (transition k))) (fire_reply net j (transition k)) (refuse j (first (fire_checks net j (transition k)))))
      (number-bytes n)

  -- where none of 12 to 18 holds, the firing is done
  pub act-fires : (t : Transition) → clear (fire_checks net j t) ≡ true → act net j (fire_command t) ≡ fire_reply net j t
  act-fires t e = fires-number t.0 ∙ ap (λ (b : Bool). pick b (fire_reply net j t) (refuse j (first (fire_checks net j t)))) e

module _ (net : Net) where
  fires-clear : (j : Journal) (t : Transition) (m : List Bool) (z : Marking) → Fires net j.marking t m z → length j.lines < max_live → (last_given j).0 < max_key
      → clear (fire_checks net j t) ≡ true
  fires-clear j t m z F few low =
      rw (lt-leb (length net.transitions) t.0 F.listed, F.placed, F.present, F.absent, F.together, lt-leb max_live (length j.lines) few, lt-leb max_key (last_given j).0 low)

  add_none : (k : ℕ) → k ≡ k + 0
  add_none k = omega arith

  add-one : (k n : ℕ) → suc k + n ≡ k + suc n
  add-one k n = omega arith

  -- a run of lines, given as commands after those of acc
  run-all : (ls acc : List LiveLine) (s z : Marking) (k : ℕ) → Run (Fires net) s ls z
      → length acc + length ls ≤ max_live → k + length ls ≤ max_key
      → (play net (fire_commands ls) (record { marking = s; lines = acc; given = key k }) ≡ record { marking = z; lines = acc ++ numbered k ls; given = key (k + length ls) })
      × (answers net (fire_commands ls) (record { marking = s; lines = acc; given = key k }) ≡ all_fired k ls)
  run-all [] acc s z k r few low = ((λ i. record { marking = r i; lines = sym (append-nil acc) i; given = key (add_none k i) }), refl)
  run-all (l ∷ ls) acc s z k r few low =
      let j : Journal = record { marking = s; lines = acc; given = key k } in
      let new : LiveLine = record { transition = l.transition; key = key (suc k); moved = l.moved } in
      let F : Fires net s l.transition l.moved r.0 = r.1 in
      let meant : Reply = record { journal = record { marking = r.0; lines = acc ++ (new ∷ []); given = key (suc k) }; answer = fired (key (suc k)) } in
      let so : fire_reply net j l.transition ≡ meant = λ i. record {
        journal = record { marking = sym F.gives i; lines = acc ++ (record { transition = l.transition; key = key (suc k); moved = sym F.moves_m i } ∷ []); given = key (suc k) };
        answer = fired (key (suc k));
      } in
      let reply : act net j (fire_command l.transition) ≡ meant =
      act-fires net j l.transition (fires-clear j l.transition l.moved r.0 F (omega arith) (omega arith)) ∙ so in
      let (journal, ans) = run-all ls (acc ++ (new ∷ [])) r.0 z (suc k) r.2 (rw length-append (omega arith)) (omega arith) in (
        ap (λ (x : Reply). play net (fire_commands ls) x.journal) reply ∙ journal ∙ (λ i. record { marking = z; lines = append_assoc acc (new ∷ []) (numbered (suc k) ls) i; given = key (add-one k (length ls) i) }),
        ap (λ (x : Reply). x.answer ∷ answers net (fire_commands ls) x.journal) reply ∙ (λ i. fired (key (suc k)) ∷ ans i),
      )

module _ (net : Net) (ok : net_rule net ≡ true) where
  -- what holds of a journal's lines runs forward, and so does every reordering of them
  pub held_forward : (j : Journal) → Held net j → (ms : List LiveLine) → Reordering in_set j.lines ms → Forward net ms j.marking
  held_forward j H ms R =
      let turn = reordering-swapped in_set ms j.lines (up-distinct j.lines H.up) R in
      let run = swapped-run in_set view (Good net) (Fires net) (λ s t m. undo net.bases (arcs_of net t) m s) (laws net (fits net ok)) turn net.start j.marking (start-good net ok) H.run in
      let size : length j.lines ≡ length ms = swapped-length in_set turn in
      let few = H.few in
      let (journal, ans) = run-all net ms [] net.start j.marking 0 run (omega arith) (omega arith) in
      record { journal = journal ∙ (λ i. record { marking = j.marking; lines = numbered 0 ms; given = key (zero-add (length ms) i) }); answer = ans }

  pub demand3 : (cs : List (List ℕ)) → LinesRunForward net cs
  demand3 cs =
      let j : Journal = play net cs (begin net) in
      let H : Held net j = played net ok cs in
      record {
        in_order = held_forward j H j.lines (reordering-same in_set j.lines (up-distinct j.lines H.up));
        reordered = held_forward j H;
      }
