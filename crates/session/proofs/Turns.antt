-- A list of commands on a sound record is the list on the journal that it holds; its length, and that it ends in a sound record.
-- Assumes a sound record on an accepted sheet where it says so.
use mathlib.Core.Path.{◌≡◌, refl, sym, ◌∙◌, ap}
use mathlib.Core.Bool.{true}
use mathlib.Core.List.{List, [], ◌∷◌, map, map-map}
use Prim.Native.Nat.{ℕ, suc}
use lib.ListN.{length}
use lib.Seq.{sets}
use Rattle.net.specs.Checks.{clear}
use Rattle.net.specs.Journal as J
use Rattle.net.specs.Journal.{Journal, act, answers}
use Rattle.net.proofs.Journal.{Held, act-held}
use Rattle.format.specs.NetOf.{net_of}
use Rattle.sheet.specs.Checks.{sheet_checks}
use Rattle.sheet.proofs.Accepted.{promised}
use Rattle.command_list.specs.Commands.{commands_in}
use Rattle.tally.specs.Counts.{counted_of}
use Rattle.tally.specs.declared.Tally.{Tally}
use Rattle.commands.specs.Answers.{word_of, value_of}
use Rattle.runs.specs.declared.Held as Struct
use Rattle.runs.specs.Running.{said_word, tallied, RanOn}
use Rattle.session.specs.declared.Record.{Record}
use Rattle.session.specs.declared.Outcome.{Outcome}
use Rattle.session.specs.Records.{held_in, record_of, Sound}
use Rattle.session.specs.Lent.{record_with}
use Rattle.session.specs.Commands.{Result, outcome_of, command_of}
use Rattle.session.specs.Runs.{Answered, answered, Session, run_of}
use Rattle.session.specs.Lists.{ran_of, RunGives}
use Rattle.session.proofs.Steps.{step, outcome-is, follows}
use Rattle.session.proofs.Stays.{command-sound, holds, laid_out}

pub run_length : (s : List ℕ) (cs : List (List ℕ)) (r : Record) (t : Tally) → length (run_of s cs r t).answers ≡ length cs
run_length s [] r t = refl
run_length s (c ∷ cs) r t = let y : Result = command_of s r t c in ap suc (run_length s cs y.outcome.session y.tally)

-- from a sound record the whole list ends in a sound record
pub run_sound : (s : List ℕ) (cs : List (List ℕ)) (r : Record) (t : Tally) → Sound s r → Sound s (run_of s cs r t).session
run_sound s [] r t S = S
run_sound s (c ∷ cs) r t S = let y : Result = command_of s r t c in run_sound s cs y.outcome.session y.tally (command-sound s r S t c)

pub ran-sound : (s b : List ℕ) (r : Record) (t : Tally) → Sound s r → Sound s (ran_of s b r t).session
unfolding ran_of
ran-sound s b r t S = run_sound s (commands_in b) r t S

-- ---- the tally of a list

counted_is : (s : List ℕ) (r : Record) (t : Tally) (c : List ℕ) → (command_of s r t c).tally ≡ counted_of t (word_of (command_of s r t c).outcome.answer)
unfolding command_of
counted_is s r t c = refl

pub tally-follows : (s : List ℕ) (accepted : clear (sheet_checks s) ≡ true) (cs : List (List ℕ)) (j : Journal) (t : Tally) → Held (net_of s) j
    → (run_of s cs (record_of j) t).tally ≡ tallied (answers (net_of s) cs j) t
tally-follows s accepted [] j t H = refl
tally-follows s accepted (c ∷ cs) j t H =
    let y : Result = command_of s (record_of j) t c in
    let e : y.outcome ≡ outcome_of (act (net_of s) j c) = outcome-is s (record_of j) t c ∙ step s accepted j c H in
    let n : y.tally ≡ counted_of t (said_word (act (net_of s) j c).answer) = counted_is s (record_of j) t c ∙ ap (λ (o : Outcome). counted_of t (word_of o.answer)) e in
    (λ i. (run_of s cs (e i).session (n i)).tally) ∙ tally-follows s accepted cs (act (net_of s) j c).journal _ (act-held (net_of s) (promised s accepted).rule j c H)

-- ---- the list on what the record holds

module _ (s b : List ℕ) (r : Record) (t : Tally) (S : Sound s r) where
  on-journal : ran_of s b r t ≡ run_of s (commands_in b) (record_of (held_in s r)) t
  unfolding ran_of
  on-journal = ap (λ (x : Record). run_of s (commands_in b) x t) (laid_out s r S)

  pub run-gives : (words₀ values₀ : List ℕ) (h : Struct.Held) (u : Tally) (words values : List ℕ)
      → RanOn (net_of s) (held_in s r) (commands_in b) t words₀ values₀ h u words values → (x : Record) → x ≡ record_with h → RunGives (ran_of s b r t) words₀ values₀ x u words values
  unfolding record_of
  run-gives words₀ values₀ h u words values R x e =
      let cs : List (List ℕ) = commands_in b in
      let F = follows s S.passed.accepted cs (held_in s r) t (holds s r S) in
      let back = sym on-journal in
      let said : List J.Answer = answers (net_of s) cs (held_in s r) in
      let all : map answered said ≡ (ran_of s b r t).answers = sym F.answers ∙ ap (λ (y : Session). y.answers) back in
      record {
        session_is = e ∙ ap record_with R.held_is ∙ sym F.session ∙ ap (λ (y : Session). y.session) back;
        tally_is = R.tally_is ∙ sym (tally-follows s S.passed.accepted cs (held_in s r) t (holds s r S)) ∙ ap (λ (y : Session). y.tally) back;
        words_are = R.words_are ∙ ap (sets words₀ 0) (sym (map-map (λ (a : Answered). word_of a.answer) answered said) ∙ ap (map (λ (a : Answered). word_of a.answer)) all);
        values_are = R.values_are ∙ ap (sets values₀ 0) (sym (map-map (λ (a : Answered). value_of a.answer a.key) answered said) ∙ ap (map (λ (a : Answered). value_of a.answer a.key)) all);
      }
