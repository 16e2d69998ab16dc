-- `sheet_print::put_moves`: the answers to the goals that the check leaves.
use native.Mathlib.Omega.{arith}
use mathlib.Core.Path.{◌≡◌}
use Rattle.text.proofs.Writes.{written-pair}
use Rattle.text.proofs.Joined.{table-written}
use Rattle.format.specs.Arcs.{entry_count}
use Rattle.sheet_print.specs.Pieces.{move_at}
use Rattle.sheet_print.proofs.Lists.{moves-upto}
use Rattle.sheet_print.proofs.put_moves.Goals as goal

pub put_move-pos-requires : goal.put_move-pos-requires
put_move-pos-requires c = omega (arith, moves-upto c.args.bytes.now c.loop-i.i, c.loop-i.invariant.count, c.entry_count-n.ensures)

pub loop-i-preserved : goal.loop-i-preserved
loop-i-preserved c = table-written (move_at c.args.bytes.now) c.loop-i.i c.loop-i.invariant c.put_move-pos.ensures

pub returns : goal.returns
returns c =
    let e : c.loop-i.i ≡ entry_count c.args.bytes.now = omega (arith, c.entry_count-n.ensures) in
    rw (← e) (written-pair c.loop-i.invariant)
