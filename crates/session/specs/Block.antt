-- A whole paper handed in together (02, T-02): its checks in order, and what the record, the tally and the lists are after it.
-- Definitions only. `block_of` fixes every outcome whole.
use Rattle.std.specs.Prelude.{◌≡◌, List, [], ◌∷◌, ℕ, length}
use Rattle.std.proofs.lemmas.List.Edits.{sets}
use Rattle.net.specs.Tests.{pick}
use Rattle.net.specs.Checks.{Check, check, clear, first, verdict_number}
use Rattle.tally.specs.declared.Tally.{Tally}
use Rattle.command_list.specs.Commands.{how_many}
use Rattle.command_list.specs.Block.{unfit_for}
use Rattle.session.specs.Commands.{record_checks}
use Rattle.session.specs.Runs.{Session}
use Rattle.session.specs.Lists.{words_of, values_of, ran_of}
use Rattle.session.specs.declared.Record.{Record}
use Rattle.net.specs.declared.Verdict.TheVariants.{Accepted, Refused}
use Rattle.session.specs.declared.block.BlockOutcome.{BlockOutcome}
use Rattle.session.specs.declared.block.BlockCounted.{BlockCounted}

-- 1 to 10, then 26; for lists of so many entries
abbrev pub block_checks : List ℕ → Record → List ℕ → ℕ → ℕ → List Check
block_checks s r b words values = record_checks s r (check 26 (unfit_for b words values) ∷ [])

-- What a block leaves: the outcome, the tally, and the two lists of answers.
pub record Handed : Type 0 where
  pub outcome : BlockOutcome
  pub tally : Tally
  pub words : List ℕ
  pub values : List ℕ

-- It is run: the session's record and tally, the answers as words and values from entry 0 on; what lies after them stays.
abbrev pub ran_block : ℕ → List ℕ → List ℕ → Session → Handed
ran_block n words values y = record {
  outcome = record { answer = Accepted; count = n; session = y.session };
  tally = y.tally;
  words = sets words 0 (words_of y);
  values = sets values 0 (values_of y);
}

-- It is turned away by number n: no command runs, and nothing changes.
abbrev pub turned_away : Record → ℕ → Tally → BlockCounted
turned_away r n t = record { outcome = record { answer = Refused n; count = 0; session = r }; tally = t }

abbrev pub not_run : BlockCounted → List ℕ → List ℕ → Handed
not_run y words values = record { outcome = y.outcome; tally = y.tally; words = words; values = values }

-- The fold of `command_of` over the block's commands, a last one cut short among them, where no check holds.
unfoldable pub block_of : List ℕ → Record → Tally → List ℕ → List ℕ → List ℕ → Handed
block_of s r t b words values = pick (clear (block_checks s r b (length words) (length values)))
    (ran_block (how_many b) words values (ran_of s b r t))
    (not_run (turned_away r (first (block_checks s r b (length words) (length values))) t) words values)

-- What the call promises of the outcome o, the lent tally u and the lent lists: all are the definition's, and the answer's
-- number is that of the first check that holds, 0 where none does.
pub record Blocked (s : List ℕ) (r : Record) (t : Tally) (b words₀ values₀ : List ℕ) (o : BlockOutcome) (u : Tally) (words values : List ℕ) : Type 0 where
  pub outcome : o ≡ (block_of s r t b words₀ values₀).outcome
  pub tally : u ≡ (block_of s r t b words₀ values₀).tally
  pub words_are : words ≡ (block_of s r t b words₀ values₀).words
  pub values_are : values ≡ (block_of s r t b words₀ values₀).values
  pub number : verdict_number o.answer ≡ first (block_checks s r b (length words₀) (length values₀))
