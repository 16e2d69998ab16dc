-- Demands 1 and 2: one command on any sheet, record and tally.
-- Assumes nothing.
use mathlib.Core.Path.{◌≡◌, refl, sym, ◌∙◌, ap, subst}
use mathlib.Core.Bool.{Bool, true, false}
use mathlib.Core.List.{List}
use Prim.Native.Nat.{ℕ}
use native.Mathlib.Omega.{arith}
use lib.Dec.{eqb, ltb, leb}
use borrow.Author.Tests.{eq-eqb, lt-ltb, le-leb}
use Rattle.causal.proofs.Tests.{test, both}
use Rattle.net.specs.Tests.{pick, all}
use Rattle.net.specs.Checks.{Check, clear, first}
use Rattle.net.specs.Journal.{kind_of, transition_named, key_named, fire_checks, undo_checks, fire_reply, undo_reply}
use Rattle.net.proofs.Tests.{and_i, all-e, all-i, all_append}
use Rattle.net.proofs.Checks.{first-has}
use Rattle.format.specs.NetOf.{net_of}
use Rattle.sheet.specs.Checks.{sheet_checks}
use Rattle.tally.specs.Counts.{counted_of}
use Rattle.tally.specs.declared.Tally.{Tally}
use Rattle.session.specs.declared.Record.{Record}
use Rattle.session.specs.Records.{held_in}
use Rattle.session.specs.Commands.{refusal, outcome_of, accept_of, command_checks, command_of}
use Rattle.commands.specs.Answers.{answer_number, word_of}
use Rattle.commands.specs.declared.Answer.{Answer}
use Rattle.commands.specs.declared.Answer.TheVariants.{Fired, Undone, Refused}
use Rattle.session.specs.declared.Outcome.{Outcome}
use Rattle.session.proofs.Steps.{outcome-is}
use Rattle.session.proofs.Answers.{when, none_first, answer-number}
use Rattle.claims.specs.Demands.{one_more_fired, one_more_undone, one_more_refused, Demand1, Demand2}
use Rattle.claims.proofs.Sheets.{one_to, one-to, sheet-within}
use Rattle.claims.proofs.Checks.{first_found, found_first}

-- ---- the numbers are 1 to 21

abbrev numbered : Check → Bool
numbered c = one_to 21 c.number

up_to : (n : ℕ) → one_to 9 n ≡ true → one_to 21 n ≡ true
up_to n h = let (a, b) = one-to 9 n h in and_i (ltb 0 n) (leb n 21) (lt-ltb 0 n a) (le-leb n 21 (omega arith))

command-within : (s : List ℕ) (r : Record) (c : List ℕ) → all numbered (command_checks s r c) ≡ true
command-within s r c = all_append numbered (sheet_checks s) _ ∙ and_i (all numbered (sheet_checks s)) _ (all-i numbered (sheet_checks s) (λ x m. up_to x.number (all-e (λ (y : Check). one_to 9 y.number) (sheet_checks s) (sheet-within s) x m))) (own (eqb (kind_of c) 1))
  where
    own : (b : Bool) → all numbered (pick b (fire_checks (net_of s) (held_in s r) (transition_named c)) (undo_checks (held_in s r) (key_named (held_in s r) c))) ≡ true
    own true = refl
    own false = refl

-- ---- one outcome

-- an accepted command's answer
accepted-answer : (s : List ℕ) (r : Record) (c : List ℕ) → (n : ℕ) → (accept_of s r c).answer ≡ Refused n → ⊥
accepted-answer s r c n e = go (eqb (kind_of c) 1) e
  where
    is_refused : Answer → Bool
    is_refused Fired = false
    is_refused Undone = false
    is_refused (Refused k) = true

    go : (b : Bool) → (outcome_of (pick b (fire_reply (net_of s) (held_in s r) (transition_named c)) (undo_reply (net_of s) (held_in s r) (key_named (held_in s r) c)))).answer ≡ Refused n → ⊥
    go true d = both false (ap is_refused d) refl
    go false d = both false (ap is_refused d) refl

-- the outcome, by whether some check holds
module _ (s : List ℕ) (r : Record) (t : Tally) (c : List ℕ) where
  when-clear : clear (command_checks s r c) ≡ true → (command_of s r t c).outcome ≡ accept_of s r c
  when-clear h = outcome-is s r t c ∙ when s r c true h

  when-held : clear (command_checks s r c) ≡ false → (command_of s r t c).outcome ≡ refusal r (first (command_checks s r c))
  when-held h = outcome-is s r t c ∙ when s r c false h

  -- a refused answer has the number of the first check that holds
  refused-held : (n : ℕ) → (command_of s r t c).outcome.answer ≡ Refused n → (clear (command_checks s r c) ≡ false) × (first (command_checks s r c) ≡ n)
  refused-held n e = test (clear (command_checks s r c))
      (λ h. absurd (accepted-answer s r c n (sym (ap (λ (o : Outcome). o.answer) (when-clear h)) ∙ e)))
      (λ h. (h, ap answer_number (sym (ap (λ (o : Outcome). o.answer) (when-held h)) ∙ e)))

  tally_is : (n : ℕ) → (command_of s r t c).outcome ≡ refusal r n → command_of s r t c ≡ record { outcome = refusal r n; tally = one_more_refused t }
  unfolding command_of counted_of
  tally_is n e = λ i. record { outcome = e i; tally = counted_of t (word_of (e i).answer) }

  -- the tally of an accepted command goes by its answer
  tally-of : (x : Outcome) → (command_of s r t c).outcome ≡ x → (command_of s r t c).tally ≡ counted_of t (word_of x.answer)
  unfolding command_of
  tally-of x e = ap (λ (o : Outcome). counted_of t (word_of o.answer)) e

  fires-so : clear (command_checks s r c) ≡ true → eqb (kind_of c) 1 ≡ true → (command_of s r t c).outcome ≡ outcome_of (fire_reply (net_of s) (held_in s r) (transition_named c))
  fires-so h k = when-clear h ∙ ap (λ (b : Bool). outcome_of (pick b (fire_reply (net_of s) (held_in s r) (transition_named c)) (undo_reply (net_of s) (held_in s r) (key_named (held_in s r) c)))) k

  undoes-so : clear (command_checks s r c) ≡ true → eqb (kind_of c) 1 ≡ false → (command_of s r t c).outcome ≡ outcome_of (undo_reply (net_of s) (held_in s r) (key_named (held_in s r) c))
  undoes-so h k = when-clear h ∙ ap (λ (b : Bool). outcome_of (pick b (fire_reply (net_of s) (held_in s r) (transition_named c)) (undo_reply (net_of s) (held_in s r) (key_named (held_in s r) c)))) k

  counted-fired : counted_of t 0 ≡ one_more_fired t
  unfolding counted_of
  counted-fired = refl

  counted-undone : counted_of t 1 ≡ one_more_undone t
  unfolding counted_of
  counted-undone = refl

  pub demand1 : Demand1 s r t c
  demand1 = record {
    number = ap (λ (o : Outcome). answer_number o.answer) (outcome-is s r t c) ∙ answer-number s r c;
    accepted = λ e. none_first s r c ∙ eq-eqb (first (command_checks s r c)) 0 e;
    refused = λ n e. let (h, q) = refused-held n e in tally_is n (when-held h ∙ ap (refusal r) q);
    numbers = λ n e. let (h, q) = refused-held n e in one-to 21 n (subst (λ (k : ℕ). one_to 21 k ≡ true) q (first-has (one_to 21) (command_checks s r c) (command-within s r c) h));
  }

  pub demand2 : Demand2 s r t c
  demand2 = record {
    fires = fires-so;
    undoes = undoes-so;
    counts_fired = λ h k. tally-of _ (fires-so h k) ∙ counted-fired;
    counts_undone = λ h k. tally-of _ (undoes-so h k) ∙ counted-undone;
    refuses = λ n (before, after, e, h). let (q, k) = found_first n before after h in ap (λ (o : Outcome). o.answer) (when-held (ap clear e ∙ k)) ∙ ap Refused (ap first e ∙ q);
    otherwise = λ n e. let (h, q) = refused-held n e in rw (← q) (first_found (command_checks s r c) h);
  }
