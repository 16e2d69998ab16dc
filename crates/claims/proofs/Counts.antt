-- Fired less undone is the number of live firings, over a fresh session of at most 65,535 commands.
-- Assumes an accepted sheet.
use mathlib.Core.Path.{◌≡◌, refl, sym, ◌∙◌, ap}
use mathlib.Core.Bool.{Bool, true, false}
use mathlib.Core.List.{List, [], ◌∷◌, ◌++◌}
use Prim.Native.Nat.{ℕ, ◌+◌, ◌<◌, ◌≤◌}
use native.Mathlib.Omega.{arith}
use lib.Dec.{eqb}
use lib.ListN.{length, length-append}
use borrow.Author.Tests.{not-false, lt-ltb}
use Rattle.net.specs.Tests.{pick}
use Rattle.net.specs.Rules.{net_rule}
use Rattle.net.specs.Checks.{clear, first}
use Rattle.net.specs.Net.{Net}
use Rattle.net.specs.Journal.{LiveLine, Journal, Reply, is_live, line_of, without, kind_of, fire_checks, undo_checks, checks, transition_named, key_named, fire_reply, undo_reply, refuse, begin, act, play}
use Rattle.net.specs.declared.Key.{Key}
use Rattle.net.proofs.Tests.{pick-case}
use Rattle.net.proofs.Checks.{clear-off}
use Rattle.net.proofs.Keys.{Up, live-split, without-split}
use Rattle.net.proofs.Journal.{Held, checks-kind, act-held, begin-held}
use Rattle.net.proofs.Totals.{totals}
use Rattle.format.specs.NetOf.{net_of}
use Rattle.sheet.specs.Checks.{sheet_checks}
use Rattle.tally.specs.Counts.{max_count, one_more, counted_of, zero_tally}
use Rattle.tally.specs.declared.Tally.{Tally}
use Rattle.session.specs.Records.{record_of}
use Rattle.session.specs.declared.Record.{Record}
use Rattle.session.specs.Commands.{command_of, fresh_of}
use Rattle.commands.specs.Answers.{answer_of, word_of}
use Rattle.session.specs.Runs.{Session, run_of}
use Rattle.session.specs.declared.Outcome.{Outcome}
use Rattle.session.proofs.Steps.{step, follows-fresh}
use Rattle.claims.specs.Demands.{SessionTotals}

-- ---- one command

below-limit : (n : ℕ) → n < max_count → one_more n ≡ n + 1
unfolding one_more
below-limit n h = rw (lt-ltb n max_count h)

-- a line taken out
without-length : (k : Key) (ls : List LiveLine) → Up ls → is_live k ls ≡ true → length (without k ls) + 1 ≡ length ls
without-length k ls u h = let (xs, ys, q, e) = live-split k ls h in go (line_of k ls) xs ys q e
  where
    go : (l : LiveLine) (xs ys : List LiveLine) → ls ≡ xs ++ l ∷ ys → l.key.0 ≡ k.0 → length (without k ls) + 1 ≡ length ls
    go l xs ys q e =
        let gone : without k ls ≡ xs ++ ys = ap (without k) q ∙ without-split k l xs ys e (rw q at u) in
        let a = length-append xs ys in
        let b = length-append xs (l ∷ ys) in
        rw (gone, q) (omega arith)

-- the tally adds up: fired is undone and the live firings; so many commands were given
pub record Adds (t : Tally) (j : Journal) (given : ℕ) : Type 0 where
  pub live : t.fired ≡ t.undone + length j.lines
  pub all : t.fired + t.undone + t.refused ≡ given

abbrev counted : Tally → Reply → Tally
counted t y = counted_of t (word_of (answer_of y.answer))

module _ (net : Net) (j : Journal) (t : Tally) (k : ℕ) (H : Held net j) (A : Adds t j k) (small : k < max_count) where
  adds-fired : (c : List ℕ) → Adds (counted t (fire_reply net j (transition_named c))) (fire_reply net j (transition_named c)).journal (k + 1)
  unfolding counted_of
  adds-fired c =
      let a = A.live in
      let b = A.all in
      let f = below-limit t.fired (omega arith) in
      record { live = rw (f, length-append) (omega arith); all = rw f (omega arith) }

  adds-undone : (q : Key) → clear (undo_checks j q) ≡ true → Adds (counted t (undo_reply net j q)) (undo_reply net j q).journal (k + 1)
  unfolding counted_of
  adds-undone q e =
      let a = A.live in
      let b = A.all in
      let f = below-limit t.undone (omega arith) in
      let l = without-length q j.lines H.up (not-false (is_live q j.lines) (clear-off (undo_checks j q) e 19)) in
      record { live = rw f (omega arith); all = rw f (omega arith) }

  adds-refused : (n : ℕ) → Adds (counted t (refuse j n)) j (k + 1)
  unfolding counted_of
  adds-refused n =
      let b = A.all in
      let f = below-limit t.refused (omega arith) in
      record { live = A.live; all = rw f (omega arith) }

  adds-act : (c : List ℕ) → Adds (counted t (act net j c)) (act net j c).journal (k + 1)
  adds-act c = pick-case (λ (y : Reply). Adds (counted t y) y.journal (k + 1)) (clear (checks net j c)) _ _
      (λ e. by_kind (eqb (kind_of c) 1) (checks-kind net j c e)) (λ _. adds-refused (first (checks net j c)))
    where
      by_kind : (b : Bool) → clear (pick b (fire_checks net j (transition_named c)) (undo_checks j (key_named j c))) ≡ true
          → Adds (counted t (pick b (fire_reply net j (transition_named c)) (undo_reply net j (key_named j c)))) (pick b (fire_reply net j (transition_named c)) (undo_reply net j (key_named j c))).journal (k + 1)
      by_kind true e = adds-fired c
      by_kind false e = adds-undone (key_named j c) e

-- ---- a list of commands

module _ (s : List ℕ) (accepted : clear (sheet_checks s) ≡ true) (ok : net_rule (net_of s) ≡ true) where
  -- the tally after a command on the record of a journal
  tally-step : (j : Journal) (t : Tally) (c : List ℕ) → Held (net_of s) j → (command_of s (record_of j) t c).tally ≡ counted t (act (net_of s) j c)
  unfolding command_of
  tally-step j t c H = ap (λ (o : Outcome). counted_of t (word_of o.answer)) (step s accepted j c H)

  session-step : (j : Journal) (t : Tally) (c : List ℕ) → Held (net_of s) j → (command_of s (record_of j) t c).outcome.session ≡ record_of (act (net_of s) j c).journal
  unfolding command_of
  session-step j t c H = ap (λ (o : Outcome). o.session) (step s accepted j c H)

  adds_run : (cs : List (List ℕ)) (j : Journal) (t : Tally) (k : ℕ) → Held (net_of s) j → Adds t j k → k + length cs ≤ max_count
      → Adds (run_of s cs (record_of j) t).tally (play (net_of s) cs j) (k + length cs)
  adds_run [] j t k H A h = record { live = A.live; all = let b = A.all in omega arith }
  adds_run (c ∷ cs) j t k H A h =
      let j' : Journal = (act (net_of s) j c).journal in
      let t' : Tally = counted t (act (net_of s) j c) in
      let rest = adds_run cs j' t' (k + 1) (act-held (net_of s) ok j c H) (adds-act (net_of s) j t k H A (omega arith) c) (omega arith) in
      let same : run_of s cs (command_of s (record_of j) t c).outcome.session (command_of s (record_of j) t c).tally ≡ run_of s cs (record_of j') t' =
      λ i. run_of s cs (session-step j t c H i) (tally-step j t c H i) in
      let b = rest.all in
      let e : (run_of s (c ∷ cs) (record_of j) t).tally ≡ (run_of s cs (record_of j') t').tally = ap (λ (y : Session). y.tally) same in
      rw e (record { live = rest.live; all = omega arith })

  live_of : (j : Journal) → (record_of j).firings.live ≡ length j.lines
  unfolding record_of
  live_of j = refl

  fresh-is : fresh_of s ≡ record_of (begin (net_of s))
  unfolding fresh_of
  fresh-is = refl

  pub session-totals : (cs : List (List ℕ)) → SessionTotals s cs
  session-totals cs = record {
    marking = totals (net_of s) ok cs;
    live = λ h.
        let A = adds_run cs (begin (net_of s)) zero_tally 0 (begin-held (net_of s) ok) (record { live = refl; all = refl }) (omega arith) in
        let B : Adds (run_of s cs (fresh_of s) zero_tally).tally (play (net_of s) cs (begin (net_of s))) (0 + length cs) = rw fresh-is A in
        B.live ∙ ap (λ (n : ℕ). (run_of s cs (fresh_of s) zero_tally).tally.undone + n)
        (sym (live_of (play (net_of s) cs (begin (net_of s)))) ∙ ap (λ (r : Record). r.firings.live) (sym (follows-fresh s accepted cs zero_tally).session));
  }
