-- `output::commands_in`: the answers to the goals that the check leaves.
-- the bytes from a position on, where the position has another name; over any numbers, so that none of the limit's is computed
use mathlib.Core.Path.{◌≡◌, ap, ◌∙◌}
use mathlib.Core.List.{List}
use Prim.Native.Nat.{ℕ, ◌+◌, ◌*◌}
use lib.ListN.{take, drop}
use Rattle.report.specs.Said.{max_commands}
use Rattle.output.proofs.commands_in.Goals as goal

renamed : (n k m : ℕ) (s r : List ℕ) → r ≡ take n (drop (2 + k) s) → k ≡ m → r ≡ take n (drop (2 + m) s)
renamed n k m s r e f = e ∙ ap (λ (x : ℕ). take n (drop (2 + x) s)) f

pub returns : goal.returns
returns c = renamed (3 * max_commands) _ _ c.args.input.now _ c.bytes_from.ensures c.word_at.ensures.value
