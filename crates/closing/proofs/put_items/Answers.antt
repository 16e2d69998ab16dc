-- `closing::put_items`: the answers to the goals that the check leaves.
use native.Mathlib.Omega.{arith}
use mathlib.Core.Path.{◌≡◌}
use lib.ListN.{length}
use Rattle.text.proofs.Writes.{written-pair}
use Rattle.text.proofs.Joined.{table-written}
use Rattle.closing.proofs.Lines.{item_at, items-table, items-upto}
use Rattle.closing.proofs.put_items.Goals as goal

pub put_item-pos-requires : goal.put_item-pos-requires
put_item-pos-requires c = omega (arith, items-upto c.args.ns.now c.loop-n.n-index, c.loop-n.invariant.count)

pub loop-n-preserved : goal.loop-n-preserved
loop-n-preserved c = table-written (item_at c.args.ns.now) c.loop-n.n-index c.loop-n.invariant c.put_item-pos.ensures

pub returns : goal.returns
returns c =
    let e : c.loop-n.n-index ≡ length c.args.ns.now = omega arith in
    rw (← items-table c.args.ns.now, ← e) (written-pair c.loop-n.invariant)
