-- A block of commands and the two lists for its answers (02, T-02): when refusal 26 turns it away.
-- Definitions only.
use Rattle.std.specs.Prelude.{Bool, ◌||◌, List, ℕ, ltb, eqb}
use Rattle.net.specs.Tests.{pick}
use Rattle.command_list.specs.Commands.{how_many}

-- the most commands that a block may have
abbrev pub max_block : ℕ
max_block = 1000

-- More commands than that, a cut one counting, or a list with fewer entries than the block has answers.
abbrev pub unfit_for : List ℕ → ℕ → ℕ → Bool
unfit_for b words values = ltb max_block (how_many b) || (ltb words (how_many b) || ltb values (how_many b))

-- What turns a block away where n is the first of 1 to 10 that holds, 0 where none does: that one, or 26; 0 where nothing does.
abbrev pub turned_by : ℕ → List ℕ → ℕ → ℕ → ℕ
turned_by n b words values = pick (eqb n 0) (pick (unfit_for b words values) 26 0) n
