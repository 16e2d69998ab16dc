-- `commands::value_of`: the answers to the goals that the check leaves.
use mathlib.Core.Path.{refl}
use Prim.Native.Nat.{◌<◌}
use borrow.Author.Rules.{rules}
use Rattle.commands.proofs.Saying.{value-said}
use Rattle.commands.proofs.value_of.Goals as goal

pub returns-in-Fired : goal.returns-in-Fired
returns-in-Fired c = let small : c.args.key.0 < 65536 = search rules in let both = value-said _ _ _ _ c.in-Fired.is refl small in record { value = both.0; upper_bound = both.1 }

pub returns-in-Undone : goal.returns-in-Undone
returns-in-Undone c = let small : c.args.key.0 < 65536 = search rules in let both = value-said _ _ _ _ c.in-Undone.is refl small in record { value = both.0; upper_bound = both.1 }

pub returns-in-Refused : goal.returns-in-Refused
returns-in-Refused c = let both = value-said _ _ _ _ c.in-Refused.is refl (search rules) in record { value = both.0; upper_bound = both.1 }
