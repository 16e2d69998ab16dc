-- `sheet_print::put_befores`: the answers to the goals that the check leaves.
use native.Mathlib.Omega.{arith}
use mathlib.Core.Path.{◌≡◌}
use Rattle.text.proofs.Writes.{written-pair}
use Rattle.text.proofs.Joined.{table-written}
use Rattle.format.specs.Arcs.{in_count}
use Rattle.sheet_print.specs.Pieces.{before_at}
use Rattle.sheet_print.proofs.Lists.{before-upto}
use Rattle.sheet_print.proofs.put_befores.Goals as goal

pub put_before-pos-requires : goal.put_before-pos-requires
put_before-pos-requires c = omega (arith, before-upto c.args.bytes.now c.loop-i.i, c.loop-i.invariant.count, c.in_count-n.ensures)

pub loop-i-preserved : goal.loop-i-preserved
loop-i-preserved c = table-written (before_at c.args.bytes.now) c.loop-i.i c.loop-i.invariant c.put_before-pos.ensures

pub returns : goal.returns
returns c =
    let e : c.loop-i.i ≡ in_count c.args.bytes.now = omega (arith, c.in_count-n.ensures) in
    rw (← e) (written-pair c.loop-i.invariant)
