-- `engine::put_in`: the answers to the goals that the check leaves.
-- an out-bond goes in
use mathlib.Core.Path.{◌≡◌, refl, sym, ◌∙◌, ap}
use mathlib.Core.Bool.{Bool, true, false, not, ◌||◌}
use Rattle.net.specs.Net.{has_bond}
use Rattle.format.specs.Arcs.{arcs_in}
use Rattle.engine.specs.Change.{goes_in}
use Rattle.engine.proofs.put_in.Goals as goal
use Rattle.engine.proofs.put_in.Goals.{Start}

goes-out : (s : Start) → s.args.out ≡ true → goes_in (arcs_in s.args.step.now) s.args.out s.args.b ≡ true
goes-out s e = ap (λ (x : Bool). x || not (has_bond s.args.b (arcs_in s.args.step.now).out_bonds)) e

-- an in-bond where it is no out-bond
goes_in_lem : (s : Start) (x : Bool) → s.args.out ≡ false → has_bond s.args.b (arcs_in s.args.step.now).out_bonds ≡ x
    → goes_in (arcs_in s.args.step.now) s.args.out s.args.b ≡ not x
goes_in_lem s x e h = ap (λ (y : Bool). y || not (has_bond s.args.b (arcs_in s.args.step.now).out_bonds)) e ∙ ap not h

pub returns-then-out : goal.returns-then-out
returns-then-out c = c.put_bond.ensures ∙ rw (goes-out (goal.at.returns-then-out c).Start c.if-out.true) refl

pub returns-then-is_bond_of : goal.returns-then-is_bond_of
returns-then-is_bond_of c = c.requires.in_order.form ∙ rw (goes_in_lem (goal.at.returns-then-is_bond_of c).Start true c.if-out.false (sym c.is_bond_of.ensures ∙ c.if-is_bond_of.true)) refl

pub returns : goal.returns
returns c = c.put_bond-2.ensures ∙ rw (goes_in_lem (goal.at.returns c).Start false c.if-out.false (sym c.is_bond_of.ensures ∙ c.if-is_bond_of.false)) refl
