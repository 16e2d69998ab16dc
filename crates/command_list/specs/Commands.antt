-- The commands that bytes hold (01, commands, record, tally), in their order.
-- Definitions only.
use Rattle.std.specs.Prelude.{List, ℕ, ◌+◌, ◌*◌, ◌/◌, length, take, drop}
use Rattle.net.specs.Tests.{table}

-- How many commands the bytes hold: three bytes each; a last one of one or two bytes is a command too, cut short.
abbrev pub how_many : List ℕ → ℕ
how_many b = (length b + 2) / 3

-- Command i: the three bytes from 3 * i on, or those that are left.
abbrev pub command_at : List ℕ → ℕ → List ℕ
command_at b i = take 3 (drop (3 * i) b)

abbrev pub commands_in : List ℕ → List (List ℕ)
commands_in b = table (how_many b) (command_at b)
