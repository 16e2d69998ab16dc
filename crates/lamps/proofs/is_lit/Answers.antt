-- `lamps::is_lit`: the answers to the goals that the check leaves.
use native.Mathlib.Omega.{arith}
use mathlib.Core.Path.{◌∙◌}
use Rattle.lamps.proofs.Flags.{lamp-found, lamp-dead}
use Rattle.lamps.proofs.is_lit.Goals as goal

pub returns-in_default : goal.returns-in_default
returns-in_default c = let f = c.args.f.now in lamp-dead f c.args.key f.live c.in_default.ensures (omega arith) c.args.movers.now

pub returns : goal.returns
returns c =
    let (at, here) = c.in-Some.ensures in
    c.lit_at.ensures ∙ lamp-found c.args.f.now c.args.key c.in-Some.i at here c.args.movers.now
