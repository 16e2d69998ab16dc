-- `sheet_print::put_parts`: the answers to the goals that the check leaves.
use native.Mathlib.Omega.{arith}
use mathlib.Core.Path.{◌≡◌}
use Rattle.text.proofs.Writes.{written-pair}
use Rattle.text.proofs.Joined.{table-written}
use Rattle.format.specs.Parts.{bases_of}
use Rattle.sheet_print.specs.Pieces.{part_at}
use Rattle.sheet_print.proofs.Lists.{parts-upto}
use Rattle.sheet_print.proofs.put_parts.Goals as goal

pub put_part-pos-requires : goal.put_part-pos-requires
put_part-pos-requires c = omega (arith, parts-upto c.args.sheet.now c.loop-i.i, c.loop-i.invariant.count, c.base_count-n.ensures)

pub loop-i-preserved : goal.loop-i-preserved
loop-i-preserved c = table-written (part_at c.args.sheet.now) c.loop-i.i c.loop-i.invariant c.put_part-pos.ensures

pub returns : goal.returns
returns c =
    let e : c.loop-i.i ≡ bases_of c.args.sheet.now = omega (arith, c.base_count-n.ensures) in
    rw (← e) (written-pair c.loop-i.invariant)
