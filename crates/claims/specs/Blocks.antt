-- A whole paper handed in together (02, T-02): what is claimed of every block, over the definition of the block call.
-- Definitions only.
use Rattle.std.specs.Prelude.{◌≡◌, true, false, List, ◌++◌, ℕ, length, take, drop}
use Rattle.net.specs.Checks.{clear, first}
use Rattle.sheet.specs.Checks.{sheet_checks}
use Rattle.tally.specs.declared.Tally.{Tally}
use Rattle.command_list.specs.Commands.{how_many, commands_in}
use Rattle.session.specs.Records.{sound_for}
use Rattle.session.specs.Runs.{Session, run_of}
use Rattle.session.specs.Lists.{words_of, values_of}
use Rattle.session.specs.Block.{block_checks, Handed, turned_away, not_run, block_of}
use Rattle.session.specs.declared.Record.{Record}
use Rattle.net.specs.declared.Verdict.TheVariants.{Accepted}

-- The block's commands given singly, each by `command_of` on the record and with the tally that the one before handed back, came
-- to the session y: so does the block y', and its lists have one answer for each command and then what they had.
pub record AsSingly (y : Session) (n : ℕ) (words values : List ℕ) (y' : Handed) : Type 0 where
  pub answer : y'.outcome.answer ≡ Accepted
  pub count : y'.outcome.count ≡ n
  pub one_each : length y.answers ≡ n
  pub session : y'.outcome.session ≡ y.session
  pub tally : y'.tally ≡ y.tally
  pub words_are : y'.words ≡ words_of y ++ drop n words
  pub values_are : y'.values ≡ values_of y ++ drop n values

-- A block b on the sheet s, with the record r, the tally t and two lists for its answers.
pub record Blocks (s : List ℕ) (r : Record) (t : Tally) (b words values : List ℕ) : Type 0 where
  -- Checking soundness at the start suffices: where the record passes, it passes after any number of the block's commands, so
  -- check 10 of each single call would have passed.
  pub once : clear (sheet_checks s) ≡ true → sound_for s r ≡ true → (i : ℕ) → sound_for s (run_of s (take i (commands_in b)) r t).session ≡ true
  -- what none of 1 to 10 and 26 turns away is the same as its commands given singly
  pub singly : clear (block_checks s r b (length words) (length values)) ≡ true
      → AsSingly (run_of s (commands_in b) r t) (how_many b) words values (block_of s r t b words values)
  -- what one of them turns away, by the first of them, changes neither record, tally nor list (where single calls would have
  -- counted)
  pub away : clear (block_checks s r b (length words) (length values)) ≡ false
      → block_of s r t b words values ≡ not_run (turned_away r (first (block_checks s r b (length words) (length values))) t) words values
