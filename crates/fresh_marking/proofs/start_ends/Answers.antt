-- `fresh_marking::start_ends`: the answers to the goals that the check leaves.
use mathlib.Core.Path.{refl, ap, sym, ◌∙◌}
use native.Mathlib.Omega.{arith}
use borrow.Author.Rules.{rules}
use Rattle.net.specs.Limits.{max_bonds}
use Rattle.net.specs.declared.Bond.{Bond}
use Rattle.format.specs.NetOf.{start_bond_count, nth_start_bond}
use Rattle.bonds.proofs.Fill.{fill-turn, map-table}
use Rattle.marking.proofs.Padding.{fill-padded}
use Rattle.marking.specs.Form.{padded}
use Rattle.fresh_marking.proofs.start_ends.Goals as goal

pub loop-i-init : goal.loop-i-init
loop-i-init c = (c.start_bond_count-count.ensures, search rules, refl, search rules, refl, search rules, refl, refl)

pub loop-i-preserved : goal.loop-i-preserved
loop-i-preserved c =
    let b = c.start_bond-b.ensures in (
      search rules,
      search rules,
      search rules,
      search rules,
      search rules,
      search rules,
      fill-turn (λ j. (nth_start_bond c.args.sheet.now j).lo) c.loop-i.i _ _ 0 _ (omega arith) (ap (λ (d : Bond). d.lo) b) c.loop-i.invariant.6,
      fill-turn (λ j. (nth_start_bond c.args.sheet.now j).hi) c.loop-i.i _ _ 0 _ (omega arith) (ap (λ (d : Bond). d.hi) b) c.loop-i.invariant.7,
    )

pub returns : goal.returns
returns c =
    let k = start_bond_count c.args.sheet.now in let f = nth_start_bond c.args.sheet.now in (
      fill-padded (λ j. (f j).lo) 0 c.loop-i.i k max_bonds _ _ c.loop-i.invariant.2 (omega arith) c.loop-i.invariant.6
          ∙ ap (padded max_bonds) (sym (map-table (λ (d : Bond). d.lo) k f)),
      fill-padded (λ j. (f j).hi) 0 c.loop-i.i k max_bonds _ _ c.loop-i.invariant.4 (omega arith) c.loop-i.invariant.7
          ∙ ap (padded max_bonds) (sym (map-table (λ (d : Bond). d.hi) k f)),
    )
