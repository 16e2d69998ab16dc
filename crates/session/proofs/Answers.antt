-- What an answer says: its number is that of the first check that holds, and no two answers say the same.
-- Assumes nothing.
use mathlib.Core.Path.{◌≡◌, refl, sym, ◌∙◌, ap}
use mathlib.Core.Bool.{Bool, true, false, not}
use mathlib.Core.List.{List, ◌∷◌}
use Prim.Native.Nat.{ℕ}
use lib.Dec.{eqb, ltb}
use borrow.Author.Tests.{eqb-true}
use Rattle.causal.proofs.Tests.{test}
use Rattle.net.specs.Tests.{pick, all}
use Rattle.net.specs.Checks.{Check, check, clear, first}
use Rattle.net.specs.Journal.{kind_of, transition_named, key_named, fire_reply, undo_reply, checks, fire_checks, undo_checks}
use Rattle.net.proofs.Tests.{all_append}
use Rattle.format.specs.NetOf.{net_of}
use Rattle.sheet.specs.Checks.{sheet_checks}
use Rattle.sheet.proofs.Order.{clear_first}
use Rattle.session.specs.declared.Record.{Record}
use Rattle.session.specs.declared.Outcome.{Outcome}
use Rattle.session.specs.Records.{held_in, sound_for}
use Rattle.session.specs.Commands.{refusal, outcome_of, accept_of, command_checks, outcome_for}
use Rattle.commands.specs.Answers.{answer_number}
use Rattle.sound.proofs.Refusing.{sheet-positive}

-- ---- the numbers of all checks of a command

abbrev pub positive : List Check → Bool
positive cs = all (λ (c : Check). ltb 0 c.number) cs

pub command-positive : (s : List ℕ) (r : Record) (c : List ℕ) → positive (command_checks s r c) ≡ true
command-positive s r c =
    all_append (λ (d : Check). ltb 0 d.number) (sheet_checks s) (check 10 (not (sound_for s r)) ∷ checks (net_of s) (held_in s r) c)
    ∙ rw (sheet-positive s) (kind (eqb (kind_of c) 1))
  where
    kind : (b : Bool) → positive (pick b (fire_checks (net_of s) (held_in s r) (transition_named c)) (undo_checks (held_in s r) (key_named (held_in s r) c))) ≡ true
    kind true = refl
    kind false = refl

-- ---- the answer's number

module _ (s : List ℕ) (r : Record) (c : List ℕ) where
  abbrev by : Bool → Outcome
  by b = pick b (accept_of s r c) (refusal r (first (command_checks s r c)))

  pub when : (b : Bool) → clear (command_checks s r c) ≡ b → outcome_for s r c ≡ by b
  unfolding outcome_for
  when b h = ap by h

  pub accepted-number : answer_number (accept_of s r c).answer ≡ 0
  accepted-number = go (eqb (kind_of c) 1)
    where
      go : (b : Bool) → answer_number (outcome_of (pick b (fire_reply (net_of s) (held_in s r) (transition_named c)) (undo_reply (net_of s) (held_in s r) (key_named (held_in s r) c)))).answer ≡ 0
      go true = refl
      go false = refl

  -- none holds exactly where the first number is 0
  pub none_first : clear (command_checks s r c) ≡ eqb (first (command_checks s r c)) 0
  none_first = clear_first (command_checks s r c) (command-positive s r c)

  pub answer-number : answer_number (outcome_for s r c).answer ≡ first (command_checks s r c)
  answer-number = test (clear (command_checks s r c))
      (λ h. ap (λ (o : Outcome). answer_number o.answer) (when true h) ∙ accepted-number ∙ sym (eqb-true (first (command_checks s r c)) 0 (sym none_first ∙ h)))
      (λ h. ap (λ (o : Outcome). answer_number o.answer) (when false h))
