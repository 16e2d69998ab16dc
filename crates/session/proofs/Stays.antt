-- A sound record stays sound: what a command gives back can take the next command without a replay.
-- Assumes a sound record on an accepted sheet.
use mathlib.Core.Path.{◌≡◌, sym, ◌∙◌, ap, subst}
use mathlib.Core.List.{List}
use Prim.Native.Nat.{ℕ}
use Rattle.net.specs.Journal.{act}
use Rattle.runs.specs.Running.{performed_of}
use Rattle.runs.specs.declared.Performed.{Performed}
use Rattle.net.proofs.Journal.{Held, act-held}
use Rattle.format.specs.NetOf.{net_of}
use Rattle.sound.proofs.Holds.{rule, held}
use Rattle.sound.proofs.Refusing.{kept-is}
use Rattle.tally.specs.declared.Tally.{Tally}
use Rattle.session.specs.Records.{held_in, record_of, Sound}
use Rattle.session.specs.Lent.{record_with}
use Rattle.session.specs.Commands.{outcome_of, perform_of, outcome_for, command_of}
use Rattle.session.specs.declared.Record.{Record}
use Rattle.session.specs.declared.Outcome.{Outcome}
use Rattle.session.proofs.Steps.{sound-performs, held-sound, step}

module _ (s : List ℕ) (r : Record) (S : Sound s r) where
  pub holds : Held (net_of s) (held_in s r)
  holds = held s r.marking r.firings r.given S.passed

  -- the record is laid out as the journal that it holds
  pub laid_out : r ≡ record_of (held_in s r)
  unfolding record_of
  laid_out = λ i. record { marking = S.passed.laid_out.0 i; firings = S.passed.laid_out.1 i; movers = S.movers i; given = r.given }

  -- a command does to the record what it does to the journal
  acts : (c : List ℕ) → outcome_for s r c ≡ outcome_of (act (net_of s) (held_in s r) c)
  acts c = ap (λ (x : Record). outcome_for s x c) laid_out ∙ step s S.passed.accepted (held_in s r) c holds

  -- the checks of the sheet and of the record need not be made again
  pub performs : (c : List ℕ) → perform_of s r c ≡ outcome_for s r c
  performs c = sym (sound-performs s S.passed.accepted r c (kept-is s r.marking r.firings r.given r.movers S))

  -- what a command does to what the record holds, put together, is the outcome
  pub did-performs : (c : List ℕ) (p : Performed) → p ≡ performed_of (act (net_of s) (held_in s r) c)
      → record { answer = p.answer; key = p.key; session = record_with p.held } ≡ perform_of s r c
  unfolding record_of
  did-performs c p e =
      let o : record { answer = p.answer; key = p.key; session = record_with p.held } ≡ outcome_of (act (net_of s) (held_in s r) c) =
      λ i. record { answer = (e i).answer; key = (e i).key; session = record_with (e i).held } in
      o ∙ sym (performs c ∙ acts c)

  pub outcome-sound : (c : List ℕ) → Sound s (outcome_for s r c).session
  outcome-sound c = subst (λ (o : Outcome). Sound s o.session) (sym (acts c))
      (held-sound s S.passed.accepted (act (net_of s) (held_in s r) c).journal (act-held (net_of s) (rule s r.marking r.firings r.given S.passed) (held_in s r) c holds))

  pub sound-stays : (c : List ℕ) → Sound s (perform_of s r c).session
  sound-stays c = subst (λ (o : Outcome). Sound s o.session) (sym (performs c)) (outcome-sound c)

  pub command-sound : (t : Tally) (c : List ℕ) → Sound s (command_of s r t c).outcome.session
  unfolding command_of
  command-sound t c = outcome-sound c
