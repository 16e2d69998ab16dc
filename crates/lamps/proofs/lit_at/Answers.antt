-- `lamps::lit_at`: the answers to the goals that the check leaves.
use mathlib.Core.Path.{◌∙◌}
use borrow.Author.Tests.{le-ltb}
use Rattle.lamps.proofs.Flags.{flag-live, flag-after}
use Rattle.lamps.proofs.lit_at.Goals as goal

pub returns-then-i-f : goal.returns-then-i-f
returns-then-i-f c = c.on_top.ensures ∙ flag-live c.args.f.now c.requires.1 c.args.movers.now c.args.i c.if-i-f.true

pub returns-else-i-f : goal.returns-else-i-f
returns-else-i-f c = le-ltb _ _ c.if-i-f.false ∙ flag-after c.args.f.now c.args.movers.now c.args.i c.if-i-f.false
