-- `spread::spread_of`: the answers to the goals that the check leaves.
use mathlib.Core.Path.{◌∙◌, ap}
use Rattle.spread.specs.Spread.{told}
use Rattle.spread.proofs.Places.{told-live, told-missing}
use Rattle.spread.proofs.spread_of.Goals as goal

pub returns-in_default : goal.returns-in_default
returns-in_default c = told-missing c.args.f.now c.args.key _ c.in_default.ensures c.tell_none.ensures

pub returns : goal.returns
returns c =
    let (at, here) = c.in-Some.ensures in
    told-live c.args.f.now c.args.key _ c.in-Some.i at here (c.tell.ensures ∙ ap told c.spread_at.ensures)
