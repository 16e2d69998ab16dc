-- `engine::take_broken`: the answers to the goals that the check leaves.
use Rattle.std.proofs.Common.{sym, ◌∙◌, ap}
use Rattle.format.specs.Arcs.{arcs_in}
use Rattle.marking.specs.Form.{bonds_of, with_bonds}
use Rattle.enabling.proofs.Keeping.{left-all}
use Rattle.engine.proofs.take_broken.Goals as goal

pub returns-then-whole : goal.returns-then-whole
returns-then-whole c =
    let m = c.args.m.now in
    c.requires.0.form ∙ ap (with_bonds m) (sym (left-all (arcs_in c.args.step.now) (sym c.requires.1 ∙ c.if-whole.true) (bonds_of m)))

pub returns : goal.returns
returns c = c.take_bonds.ensures
