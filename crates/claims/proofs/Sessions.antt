-- Demand 3: a whole list of commands on an accepted sheet, from a fresh record.
-- Assumes an accepted sheet.
use mathlib.Core.Path.{◌≡◌, ◌∙◌, ap}
use mathlib.Core.Bool.{true}
use mathlib.Core.List.{List, map}
use Prim.Native.Nat.{ℕ}
use Rattle.causal.proofs.Reorderings.{reordering-same}
use Rattle.net.specs.Rules.{net_rule}
use Rattle.net.specs.Checks.{clear}
use Rattle.net.specs.Firing.{in_set}
use Rattle.net.specs.Journal.{LiveLine, Journal, begin, play}
use Rattle.net.specs.Claims.{fire_commands}
use Rattle.net.specs.History.{given_in_form, lines_in_form, replays}
use Rattle.net.proofs.Tests.{and_l}
use Rattle.net.proofs.Keys.{up-distinct}
use Rattle.net.proofs.Journal.{Held, played}
use Rattle.net.proofs.History.{journal-sound}
use Rattle.net.proofs.Claimed.{Forward}
use Rattle.net.proofs.Demand3 as N'
use Rattle.format.specs.NetOf.{net_of}
use Rattle.sheet.specs.Checks.{sheet_checks}
use Rattle.tally.specs.declared.Tally.{Tally}
use Rattle.session.specs.Records.{held_in, record_of}
use Rattle.session.specs.Runs.{answered}
use Rattle.session.proofs.Steps.{held_back, follows-fresh}
use Rattle.claims.specs.Sessions.{journal_after, session_after, ForwardRun}
use Rattle.claims.specs.Demands.{Demand3}

module _ (s : List ℕ) (accepted : clear (sheet_checks s) ≡ true) (ok : net_rule (net_of s) ≡ true) where
  -- a forward run of the journal is one of the record
  pub forward : (ls : List LiveLine) (z : _) → Forward (net_of s) ls z → (t : Tally) → ForwardRun s ls z t
  forward ls z F t =
      let y = follows-fresh s accepted (fire_commands ls) t in
      record { fired = y.answers ∙ ap (map answered) F.answer; session = y.session ∙ ap record_of F.journal; journal = F.journal }

  -- what holds of a journal's lines runs forward
  pub held-runs : (j : Journal) → Held (net_of s) j → (t : Tally) → ForwardRun s j.lines j.marking t
  held-runs j H t = forward j.lines j.marking (N'.held_forward (net_of s) ok j H j.lines (reordering-same in_set j.lines (up-distinct j.lines H.up))) t

  -- a session's record holds the journal
  pub holds : (cs : List (List ℕ)) (t : Tally) → held_in s (session_after s cs t).session ≡ play (net_of s) cs (begin (net_of s))
  holds cs t = ap (held_in s) (follows-fresh s accepted cs t).session ∙ held_back s accepted (play (net_of s) cs (begin (net_of s))) (played (net_of s) ok cs)

  pub demand3 : (cs : List (List ℕ)) (t : Tally) → Demand3 s cs t
  demand3 cs t =
      let y = follows-fresh s accepted cs t in
      let D = N'.demand3 (net_of s) ok cs in
      record {
        session = y.session;
        held = holds cs t;
        answers = y.answers;
        serials = and_l (lines_in_form (journal_after s cs).lines) (replays (net_of s) (net_of s).start (journal_after s cs).lines (journal_after s cs).marking) (and_l _ (given_in_form (journal_after s cs)) (journal-sound (net_of s) ok cs));
        in_order = forward (journal_after s cs).lines (journal_after s cs).marking D.in_order;
        reordered = λ ls R. forward ls (journal_after s cs).marking (D.reordered ls R);
      }
