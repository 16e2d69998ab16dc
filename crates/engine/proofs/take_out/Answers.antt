-- `engine::take_out`: the answers to the goals that the check leaves.
use borrow.Author.Rules.{rules}
use mathlib.Core.Path.{◌≡◌, ap, sym, ◌∙◌}
use mathlib.Core.Bool.{false, not}
use Rattle.format.specs.Sides.{side_bonds}
use Rattle.marking.specs.Form.{bonds_of, with_bonds}
use Rattle.engine.proofs.Removing.{stays-in, stays_out}
use Rattle.engine.proofs.take_out.Goals as goal

pub returns-then-kept : goal.returns-then-kept
returns-then-kept c = c.requires.form ∙ ap (with_bonds c.args.m.now) (sym (stays-in (side_bonds c.args.step.now (not c.args.out)) c.args.b (bonds_of c.args.m.now) (sym c.is_bond_of-kept.ensures ∙ c.if-kept.true)))

pub returns : goal.returns
returns c =
    let gone : c.is_bond_of-kept.result ≡ false = search rules in
    c.take_bond.ensures ∙ ap (with_bonds c.args.m.now) (sym (stays_out (side_bonds c.args.step.now (not c.args.out)) c.args.b (bonds_of c.args.m.now) (sym c.is_bond_of-kept.ensures ∙ gone)))
