-- `enabling::is_broken`: the answers to the goals that the check leaves.
use mathlib.Core.Path.{sym, ◌∙◌, ap}
use mathlib.Core.Bool.{Bool, not, ◌&&◌}
use Rattle.net.specs.Net.{has_bond}
use Rattle.format.specs.Arcs.{arcs_in}
use Rattle.enabling.proofs.is_broken.Goals as goal

pub returns-then-not-is_bond_of : goal.returns-then-not-is_bond_of
returns-then-not-is_bond_of c =
    let t = arcs_in c.args.step.now in
    ap (λ (x : Bool). x && not (has_bond c.args.b t.out_bonds)) (sym (sym c.is_bond_of.ensures ∙ c.if-not-is_bond_of.true))

pub returns : goal.returns
returns c =
    let t = arcs_in c.args.step.now in
    ap not c.is_bond_of-2.ensures ∙ ap (λ (x : Bool). x && not (has_bond c.args.b t.out_bonds)) (sym (sym c.is_bond_of.ensures ∙ c.if-not-is_bond_of.false))
