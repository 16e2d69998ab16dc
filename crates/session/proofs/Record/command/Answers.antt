-- `session::Record::command`: the answers to the goals that the check leaves.
use mathlib.Core.Path.{◌≡◌, ap, ◌∙◌}
use mathlib.Core.List.{List}
use Prim.Native.Nat.{ℕ}
use Rattle.tally.specs.declared.Tally.{Tally}
use Rattle.tally.specs.Counts.{counted_of}
use Rattle.commands.specs.Answers.{word_of, answer_number}
use Rattle.session.specs.Commands.{outcome_for, command_of, Commanded}
use Rattle.session.specs.declared.Record.{Record}
use Rattle.session.specs.declared.Outcome.{Outcome}
use Rattle.session.proofs.Answers.{answer-number}
use Rattle.session.proofs.Record.command.Goals as goal

-- what the contract says, from what the three calls say
told : (s : Record) (sheet bytes : List ℕ) (h w : Tally) (r : Outcome) (n : ℕ) → r ≡ outcome_for sheet s bytes → n ≡ word_of r.answer → w ≡ counted_of h n
    → Commanded sheet s h bytes r w
unfolding command_of
told s sheet bytes h w r n e i e' = record {
  outcome = e;
  tally = e' ∙ ap (counted_of h) (i ∙ ap (λ (y : Outcome). word_of y.answer) e);
  number = ap (λ (y : Outcome). answer_number y.answer) e ∙ answer-number sheet s bytes;
}

pub returns : goal.returns
returns c = told c.args.self c.args.sheet.now c.args.bytes.now c.args.t.now _ _ _ c.answer-o.ensures c.word_of-which.ensures c.count.ensures
