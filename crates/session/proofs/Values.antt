-- Every refusal of a command on a sound record is 11 to 21.
-- Assumes nothing.
use mathlib.Core.Path.{◌≡◌, refl, sym, ◌∙◌, ap}
use mathlib.Core.Bool.{Bool, true, false, ◌&&◌}
use mathlib.Core.List.{List, [], ◌∷◌}
use Prim.Native.Nat.{ℕ}
use lib.Dec.{eqb, leb}
use Rattle.net.specs.Tests.{pick, all}
use Rattle.net.specs.Checks.{Check, clear, first}
use Rattle.net.specs.Journal.{kind_of, transition_named, key_named, fire_reply, undo_reply, checks, fire_checks, undo_checks}
use Rattle.net.proofs.Checks.{first-has}
use Rattle.net.proofs.Tests.{and_i}
use Rattle.format.specs.NetOf.{net_of}
use Rattle.tally.specs.declared.Tally.{Tally}
use Rattle.session.specs.Records.{held_in, Sound}
use Rattle.session.specs.Commands.{refusal, outcome_of, accept_of, perform_of, Result, command_of}
use Rattle.session.specs.Runs.{Answered, run_of}
use Rattle.session.specs.declared.Record.{Record}
use Rattle.session.specs.declared.Outcome.{Outcome}
use Rattle.session.proofs.Steps.{outcome-is}
use Rattle.session.proofs.Stays.{performs, command-sound}
use Rattle.session.specs.Lists.{low_refusal}

abbrev within : ℕ → Bool
within n = leb 11 n && leb n 21

abbrev high : Check → Bool
high c = within c.number

module _ (s : List ℕ) (r : Record) (c : List ℕ) where
  all-high : all high (checks (net_of s) (held_in s r) c) ≡ true
  all-high = go (eqb (kind_of c) 1)
    where
      go : (b : Bool) → all high (pick b (fire_checks (net_of s) (held_in s r) (transition_named c)) (undo_checks (held_in s r) (key_named (held_in s r) c))) ≡ true
      go true = refl
      go false = refl

  accepted-low : low_refusal (accept_of s r c).answer ≡ true
  accepted-low = go (eqb (kind_of c) 1)
    where
      go : (b : Bool) → low_refusal (outcome_of (pick b (fire_reply (net_of s) (held_in s r) (transition_named c)) (undo_reply (net_of s) (held_in s r) (key_named (held_in s r) c)))).answer ≡ true
      go true = refl
      go false = refl

  pub low : low_refusal (perform_of s r c).answer ≡ true
  unfolding perform_of
  low = go (clear (checks (net_of s) (held_in s r) c)) refl
    where
      go : (b : Bool) → clear (checks (net_of s) (held_in s r) c) ≡ b → low_refusal (pick b (accept_of s r c) (refusal r (first (checks (net_of s) (held_in s r) c)))).answer ≡ true
      go true e = accepted-low
      go false e = first-has within (checks (net_of s) (held_in s r) c) all-high e

-- every answer of a list of commands
pub all-low : (s : List ℕ) (cs : List (List ℕ)) (r : Record) (t : Tally) → Sound s r → all (λ (a : Answered). low_refusal a.answer) (run_of s cs r t).answers ≡ true
all-low s [] r t S = refl
all-low s (c ∷ cs) r t S =
    let y : Result = command_of s r t c in
    and_i (low_refusal y.outcome.answer) _ (ap (λ (o : Outcome). low_refusal o.answer) (outcome-is s r t c ∙ sym (performs s r S c)) ∙ low s r c)
    (all-low s cs y.outcome.session y.tally (command-sound s r S t c))
