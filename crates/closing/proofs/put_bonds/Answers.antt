-- `closing::put_bonds`: the answers to the goals that the check leaves.
use native.Mathlib.Omega.{arith}
use mathlib.Core.Path.{◌≡◌}
use Rattle.text.proofs.Writes.{written-pair}
use Rattle.text.proofs.Joined.{table-written}
use Rattle.closing.proofs.Lines.{bond_at, bonds-table, bonds-upto}
use Rattle.closing.proofs.put_bonds.Goals as goal

pub put_bond-pos-requires : goal.put_bond-pos-requires
put_bond-pos-requires c = omega (arith, bonds-upto c.args.lo.now c.args.hi.now c.loop-i.i, c.loop-i.invariant.count)

pub loop-i-preserved : goal.loop-i-preserved
loop-i-preserved c = table-written (bond_at c.args.lo.now c.args.hi.now) c.loop-i.i c.loop-i.invariant c.put_bond-pos.ensures

pub returns : goal.returns
returns c =
    let e : c.loop-i.i ≡ c.args.n = omega arith in
    rw (← bonds-table c.args.lo.now c.args.hi.now c.args.n, ← e) (written-pair c.loop-i.invariant)
