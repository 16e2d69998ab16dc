-- What every command keeps true of the journal: its lines, run forward alone from the start, end in its marking.
-- Assumes that the net meets the sheet's rules.
use mathlib.Core.Path.{◌≡◌, refl, sym, ◌∙◌, ap}
use mathlib.Core.Logic.{◌⊎◌, inl, inr}
use mathlib.Core.Bool.{Bool, true, false, ◌&&◌}
use mathlib.Core.List.{List, [], ◌∷◌, ◌++◌}
use Prim.Native.Nat.{ℕ, suc, ◌<◌, ◌≤◌}
use native.Mathlib.Omega.{arith}
use lib.Dec.{eqb}
use lib.ListN.{length, length-append}
use borrow.Author.Tests.{leb-false, not-false}
use Rattle.causal.specs.Lists.{Mem}
use Rattle.causal.specs.Runs.{Run}
use Rattle.causal.proofs.Lists.{mem-skip}
use Rattle.causal.proofs.Runs.{run_join, take_back}
use Rattle.net.specs.Limits.{max_live, max_key}
use Rattle.net.specs.Tests.{pick}
use Rattle.net.specs.Net.{Marking, Net, arcs_of}
use Rattle.net.specs.Rules.{net_rule}
use Rattle.net.specs.Marking.{Good}
use Rattle.net.specs.Firing.{in_set, moved, fire, undo, Fires}
use Rattle.net.specs.Checks.{clear}
use Rattle.net.specs.Journal.{LiveLine, Journal, Reply, highest_live, last_given, is_live, line_of, without, built_on, kind_of, read_checks, enable_checks, space_checks, fire_checks, undo_checks, kind_checks, checks, transition_named, key_named, new_line, fire_reply, undo_reply, begin, act, play}
use Rattle.net.specs.declared.Transition.{Transition}
use Rattle.net.specs.declared.Key.{Key}
use Rattle.net.proofs.Tests.{and_l, and_r, pick-case}
use Rattle.net.proofs.Checks.{clear-off, clear-append}
use Rattle.net.proofs.Moves.{view}
use Rattle.net.proofs.Laws.{laws}
use Rattle.net.proofs.Rules.{fits, start-good}
use Rattle.net.proofs.Keys.{Up, highest-snoc, highest-skip, length-skip, mem-snoc, up-snoc, up-skip, up-after, live-split, without-split, independent-later, built_on-after}

-- ---- the checks of a firing, and what they say of it

-- where none of 12 to 16 holds, the transition fires
pub enabled-fires : (net : Net) (s : Marking) (t : Transition) → clear (enable_checks net s t) ≡ true
    → Fires net s t (moved net.bases (arcs_of net t) s) (fire net.bases (arcs_of net t) s)
enabled-fires net s t e =
    let off = clear-off (enable_checks net s t) e in
    record {
      listed = leb-false (length net.transitions) t.0 (off 12);
      placed = off 13;
      present = off 14;
      absent = off 15;
      together = off 16;
      moves_m = refl;
      gives = refl;
    }

-- what a command's checks say, by its kind
pub checks-kind : (net : Net) (j : Journal) (c : List ℕ) → clear (checks net j c) ≡ true → clear (kind_checks net j c) ≡ true
checks-kind net j c e = and_r (clear (read_checks c)) (clear (kind_checks net j c)) (sym (clear-append (read_checks c) (kind_checks net j c)) ∙ e)

-- ---- the invariant

pub record Held (net : Net) (j : Journal) : Type 0 where
  pub run : Run (Fires net) net.start j.lines j.marking
  pub up : Up j.lines
  pub few : length j.lines ≤ max_live
  pub top : (highest_live j.lines).0 ≤ j.given.0
  pub low : j.given.0 ≤ max_key
  pub above : (l : LiveLine) → Mem l j.lines → 0 < l.key.0

module _ (net : Net) (ok : net_rule net ≡ true) where
  fire-held : (j : Journal) (t : Transition) → clear (fire_checks net j t) ≡ true → Held net j → Held net (fire_reply net j t).journal
  fire-held j t e H =
      let both : (clear (enable_checks net j.marking t) && clear (space_checks j)) ≡ true = sym (clear-append (enable_checks net j.marking t) (space_checks j)) ∙ e in
      let z : Marking = fire net.bases (arcs_of net t) j.marking in
      let l : LiveLine = new_line net j t in
      let F = enabled-fires net j.marking t (and_l _ _ both) in
      let few : length j.lines < max_live = leb-false max_live (length j.lines) (clear-off (fire_checks net j t) e 17) in
      let low : (last_given j).0 < max_key = leb-false max_key (last_given j).0 (clear-off (fire_checks net j t) e 18) in
      let top = H.top in
      record {
        run = run_join (Fires net) j.lines (l ∷ []) net.start j.marking z H.run (z, F, refl);
        up = up-snoc j.lines l (omega arith) H.up;
        few = rw length-append (omega arith);
        top = rw (highest-snoc j.lines l (omega arith)) (omega arith);
        low = low;
        above = λ k h. pos k (mem-snoc j.lines l k h);
      }
    where
      pos : (k : LiveLine) → Mem k j.lines ⊎ (k ≡ new_line net j t) → 0 < k.key.0
      pos k (inl h) = H.above k h
      pos k (inr d) = let x : k.key.0 ≡ suc (last_given j).0 = ap (λ (l : LiveLine). l.key.0) d in omega arith

  pub undo-held : (j : Journal) (k : Key) → clear (undo_checks j k) ≡ true → Held net j → Held net (undo_reply net j k).journal
  undo-held j k e H =
      let live : is_live k j.lines ≡ true = not-false (is_live k j.lines) (clear-off (undo_checks j k) e 19) in
      let (xs, ys, q, r) = live-split k j.lines live in
      gone (line_of k j.lines) xs ys q r (clear-off (undo_checks j k) e 20)
    where
      gone : (l : LiveLine) (xs ys : List LiveLine) → j.lines ≡ xs ++ l ∷ ys → l.key.0 ≡ k.0 → built_on j.lines l ≡ false
          → Held net (record { marking = undo net.bases (arcs_of net l.transition) l.moved j.marking; lines = without k j.lines; given = j.given })
      gone l xs ys q r d =
          let u : Up (xs ++ l ∷ ys) = rw q at H.up in
          let same : without k j.lines ≡ xs ++ ys = rw q (without-split k l xs ys r u) in
          let few : length (xs ++ l ∷ ys) ≤ max_live = rw q at H.few in
          let top : (highest_live (xs ++ l ∷ ys)).0 ≤ j.given.0 = rw q at H.top in
          let lk = length-skip l xs ys in
          let hk = highest-skip l xs ys in
          rw same (record {
            run = take_back in_set view (Good net) (Fires net) (λ s t m. undo net.bases (arcs_of net t) m s) (laws net (fits net ok)) xs ys l net.start j.marking
                (start-good net ok) (rw q at H.run) (independent-later l ys (up-after l xs ys u) (built_on-after l xs ys (rw q at d)));
            up = up-skip l xs ys u;
            few = omega arith;
            top = omega arith;
            low = H.low;
            above = λ i h. H.above i (rw q (mem-skip l xs ys i h));
          })

  -- every command, accepted or refused
  pub act-held : (j : Journal) (c : List ℕ) → Held net j → Held net (act net j c).journal
  act-held j c H = pick-case (λ (r : Reply). Held net r.journal) (clear (checks net j c)) _ _ accepted (λ _. H)
    where
      by_kind : (b : Bool) → clear (pick b (fire_checks net j (transition_named c)) (undo_checks j (key_named j c))) ≡ true
          → Held net (pick b (fire_reply net j (transition_named c)) (undo_reply net j (key_named j c))).journal
      by_kind true e = fire-held j (transition_named c) e H
      by_kind false e = undo-held j (key_named j c) e H

      accepted : clear (checks net j c) ≡ true → Held net (pick (eqb (kind_of c) 1) (fire_reply net j (transition_named c)) (undo_reply net j (key_named j c))).journal
      accepted e = by_kind (eqb (kind_of c) 1) (checks-kind net j c e)

  pub play-held : (cs : List (List ℕ)) (j : Journal) → Held net j → Held net (play net cs j)
  play-held [] j H = H
  play-held (c ∷ cs) j H = play-held cs (act net j c).journal (act-held j c H)

  pub begin-held : Held net (begin net)
  begin-held = record { run = refl; up = tt; few = omega arith; top = omega arith; low = omega arith; above = λ l h. absurd h }

  pub played : (cs : List (List ℕ)) → Held net (play net cs (begin net))
  played cs = play-held cs (begin net) begin-held
