-- A command on a record that holds a journal does what it does to the journal, and a list of commands likewise.
-- Assumes an accepted sheet.
use mathlib.Core.Path.{◌≡◌, refl, ◌∙◌, ap}
use mathlib.Core.Bool.{Bool, true, false, not, ◌&&◌}
use mathlib.Core.List.{List, [], ◌∷◌, ◌++◌, map}
use Prim.Native.Nat.{ℕ}
use lib.Dec.{eqb}
use Rattle.net.specs.Tests.{pick}
use Rattle.net.specs.Checks.{Check, check, clear, first}
use Rattle.net.specs.Journal.{Journal, kind_of, transition_named, key_named, fire_reply, undo_reply, refuse, checks, act, play, answers, begin}
use Rattle.causal.proofs.Tests.{both}
use Rattle.net.proofs.Checks.{clear-append}
use Rattle.net.proofs.Journal.{Held, act-held, begin-held}
use Rattle.format.specs.NetOf.{net_of}
use Rattle.sheet.specs.Checks.{sheet_checks}
use Rattle.sheet.proofs.Accepted.{promised}
use Rattle.sound.proofs.Refusing.{kept-is}
use Rattle.sound.proofs.Fits as Fits
use Rattle.tally.specs.declared.Tally.{Tally}
use Rattle.session.specs.Records.{held_in, record_of, sound_for, Sound}
use Rattle.session.specs.declared.Record.{Record}
use Rattle.session.specs.Commands.{refusal, outcome_of, accept_of, perform_of, Result, outcome_for, command_of, fresh_of}
use Rattle.session.specs.Runs.{answered, Session, run_of}
use Rattle.session.specs.declared.Outcome.{Outcome}

-- ---- the first check of two lists

pub first-clear : (cs ds : List Check) → clear cs ≡ true → first (cs ++ ds) ≡ first ds
first-clear [] ds h = refl
first-clear (c ∷ cs) ds h = go c.holds h (first-clear cs ds)
  where
    go : (b : Bool) → (not b && clear cs) ≡ true → (clear cs ≡ true → first (cs ++ ds) ≡ first ds) → pick b c.number (first (cs ++ ds)) ≡ first ds
    go true e ih = both false e refl
    go false e ih = ih e

module _ (s : List ℕ) (accepted : clear (sheet_checks s) ≡ true) where
  -- on a sound record the checks are the command's own
  pub sound-performs : (r : Record) (c : List ℕ) → sound_for s r ≡ true → outcome_for s r c ≡ perform_of s r c
  unfolding outcome_for perform_of
  sound-performs r c h =
      let own : List Check = checks (net_of s) (held_in s r) c in
      let rest : List Check = check 10 (not (sound_for s r)) ∷ own in
      let a : clear (sheet_checks s ++ rest) ≡ clear own = clear-append (sheet_checks s) rest ∙ rw (accepted, h) in
      let b : first (sheet_checks s ++ rest) ≡ first own = first-clear (sheet_checks s) rest accepted ∙ rw h in
      λ i. pick (a i) (accept_of s r c) (refusal r (b i))

pub outcome-is : (s : List ℕ) (r : Record) (t : Tally) (c : List ℕ) → (command_of s r t c).outcome ≡ outcome_for s r c
unfolding command_of
outcome-is s r t c = refl

-- ---- the record of a journal

module _ (s : List ℕ) (accepted : clear (sheet_checks s) ≡ true) where
  pub held_back : (j : Journal) → Held (net_of s) j → held_in s (record_of j) ≡ j
  unfolding record_of
  held_back j H = Fits.held_back s accepted j H

  pub held-sound : (j : Journal) → Held (net_of s) j → Sound s (record_of j)
  unfolding record_of
  held-sound j H = Fits.held_kept s accepted j H

  -- a command on the record of a journal gives the record of the journal after it, and the journal's answer
  pub step : (j : Journal) (c : List ℕ) → Held (net_of s) j → outcome_for s (record_of j) c ≡ outcome_of (act (net_of s) j c)
  unfolding perform_of
  step j c H = sound-performs s accepted (record_of j) c (kept-is s (record_of j).marking (record_of j).firings (record_of j).given (record_of j).movers (held-sound j H))
      ∙ ap (λ (h : Journal). pick (clear (checks (net_of s) h c)) (outcome_of (pick (eqb (kind_of c) 1) (fire_reply (net_of s) h (transition_named c)) (undo_reply (net_of s) h (key_named h c)))) (refusal (record_of j) (first (checks (net_of s) h c)))) (held_back j H)
      ∙ by-checks (clear (checks (net_of s) j c))
    where
      by-checks : (b : Bool) → pick b (outcome_of (pick (eqb (kind_of c) 1) (fire_reply (net_of s) j (transition_named c)) (undo_reply (net_of s) j (key_named j c)))) (refusal (record_of j) (first (checks (net_of s) j c)))
          ≡ outcome_of (pick b (pick (eqb (kind_of c) 1) (fire_reply (net_of s) j (transition_named c)) (undo_reply (net_of s) j (key_named j c))) (refuse j (first (checks (net_of s) j c))))
      by-checks true = refl
      by-checks false = refl

  -- ---- a list of commands

  pub record Follows (j : Journal) (cs : List (List ℕ)) (y : Session) : Type 0 where
    pub session : y.session ≡ record_of (play (net_of s) cs j)
    pub answers : y.answers ≡ map answered (answers (net_of s) cs j)

  pub follows : (cs : List (List ℕ)) (j : Journal) (t : Tally) → Held (net_of s) j → Follows j cs (run_of s cs (record_of j) t)
  follows [] j t H = record { session = refl; answers = refl }
  follows (c ∷ cs) j t H =
      let y : Result = command_of s (record_of j) t c in
      let e : y.outcome ≡ outcome_of (act (net_of s) j c) = outcome-is s (record_of j) t c ∙ step j c H in
      let ih = follows cs (act (net_of s) j c).journal y.tally (act-held (net_of s) (promised s accepted).rule j c H) in
      let to : run_of s cs y.outcome.session y.tally ≡ run_of s cs (record_of (act (net_of s) j c).journal) y.tally = ap (λ (o : Outcome). run_of s cs o.session y.tally) e in
      record {
        session = ap (λ (z : Session). z.session) to ∙ ih.session;
        answers = λ i. record { answer = (e i).answer; key = (e i).key } ∷ (ap (λ (z : Session). z.answers) to ∙ ih.answers) i;
      }

  pub follows-fresh : (cs : List (List ℕ)) (t : Tally) → Follows (begin (net_of s)) cs (run_of s cs (fresh_of s) t)
  unfolding fresh_of
  follows-fresh cs t = follows cs (begin (net_of s)) t (begin-held (net_of s) (promised s accepted).rule)
