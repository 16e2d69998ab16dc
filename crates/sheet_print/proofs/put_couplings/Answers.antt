-- `sheet_print::put_couplings`: the answers to the goals that the check leaves.
use native.Mathlib.Omega.{arith}
use mathlib.Core.Path.{◌≡◌}
use Rattle.text.proofs.Writes.{written-pair}
use Rattle.text.proofs.Joined.{table-written}
use Rattle.format.specs.NetOf.{start_bond_count}
use Rattle.sheet_print.specs.Pieces.{coupled_at}
use Rattle.sheet_print.proofs.Lists.{coupled-upto}
use Rattle.sheet_print.proofs.put_couplings.Goals as goal

pub put_coupled-pos-requires : goal.put_coupled-pos-requires
put_coupled-pos-requires c = omega (arith, coupled-upto c.args.sheet.now c.loop-i.i, c.loop-i.invariant.count, c.start_bond_count-n.ensures)

pub loop-i-preserved : goal.loop-i-preserved
loop-i-preserved c = table-written (coupled_at c.args.sheet.now) c.loop-i.i c.loop-i.invariant c.put_coupled-pos.ensures

pub returns : goal.returns
returns c =
    let e : c.loop-i.i ≡ start_bond_count c.args.sheet.now = omega (arith, c.start_bond_count-n.ensures) in
    rw (← e) (written-pair c.loop-i.invariant)
