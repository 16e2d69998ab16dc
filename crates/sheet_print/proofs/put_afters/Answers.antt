-- `sheet_print::put_afters`: the answers to the goals that the check leaves.
use native.Mathlib.Omega.{arith}
use mathlib.Core.Path.{◌≡◌}
use Rattle.text.proofs.Writes.{written-pair}
use Rattle.text.proofs.Joined.{table-written}
use Rattle.format.specs.Arcs.{out_count}
use Rattle.sheet_print.specs.Pieces.{after_at}
use Rattle.sheet_print.proofs.Lists.{after-upto}
use Rattle.sheet_print.proofs.put_afters.Goals as goal

pub put_after-pos-requires : goal.put_after-pos-requires
put_after-pos-requires c = omega (arith, after-upto c.args.bytes.now c.loop-i.i, c.loop-i.invariant.count, c.out_count-n.ensures)

pub loop-i-preserved : goal.loop-i-preserved
loop-i-preserved c = table-written (after_at c.args.bytes.now) c.loop-i.i c.loop-i.invariant c.put_after-pos.ensures

pub returns : goal.returns
returns c =
    let e : c.loop-i.i ≡ out_count c.args.bytes.now = omega (arith, c.out_count-n.ensures) in
    rw (← e) (written-pair c.loop-i.invariant)
