-- `enabling::bond_absent`: the answers to the goals that the check leaves.
use mathlib.Core.Path.{◌≡◌, refl, sym, ◌∙◌}
use mathlib.Core.Bool.{not}
use native.Mathlib.Omega.{arith}
use Rattle.net.specs.Net.{has_bond}
use Rattle.net.specs.declared.Bond.{Bond}
use Rattle.net.proofs.Tables.{any-more}
use Rattle.format.specs.Arcs.{in_count, nth_in_bond}
use Rattle.marking.specs.Form.{bonds_of}
use Rattle.enabling.proofs.bond_absent.Goals as goal

pub loop-i-init : goal.loop-i-init
loop-i-init c = refl

pub loop-i-preserved : goal.loop-i-preserved
loop-i-preserved c =
    rw (c.loop-i.invariant, c.has_bond.ensures, c.in_bond.ensures)
    (sym (any-more (λ (d : Bond). not (has_bond d (bonds_of c.args.m.now))) c.loop-i.i (nth_in_bond c.args.step.now)))

pub returns : goal.returns
returns c = λ n. let e : c.loop-i.i ≡ in_count c.args.step.now = omega arith in c.loop-i.invariant ∙ rw e
