-- `engine::put_broken`: the answers to the goals that the check leaves.
use mathlib.Core.Path.{sym, ◌∙◌, ap}
use mathlib.Core.List.{List}
use Rattle.net.specs.Sorted.{puts}
use Rattle.net.specs.Net.{same_bond, less_bond}
use Rattle.net.specs.declared.Bond.{Bond}
use Rattle.format.specs.Arcs.{arcs_in}
use Rattle.marking.specs.Form.{bonds_of, with_bonds}
use Rattle.engine.proofs.Whole.{broken-in, none_in}
use Rattle.engine.proofs.put_broken.Goals as goal

pub returns-then-whole : goal.returns-then-whole
returns-then-whole c =
    let m = c.args.m.now in
    c.requires.0.order.form ∙ ap (with_bonds m) (none_in (arcs_in c.args.step.now) (sym c.requires.1 ∙ c.if-whole.true) (bonds_of m))

pub returns : goal.returns
returns c =
    let m = c.args.m.now in
    c.put_bonds.ensures ∙ ap (λ (cs : List Bond). with_bonds m (puts same_bond less_bond cs (bonds_of m))) (broken-in (arcs_in c.args.step.now))
