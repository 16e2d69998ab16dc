-- `sheet_print::put_steps`: the answers to the goals that the check leaves.
use native.Mathlib.Omega.{arith}
use mathlib.Core.Path.{◌≡◌}
use Rattle.text.proofs.Writes.{written-pair}
use Rattle.text.proofs.Joined.{table-written}
use Rattle.format.specs.Parts.{transitions_of}
use Rattle.sheet_print.specs.Pieces.{step_at}
use Rattle.sheet_print.proofs.put_steps.Goals as goal

pub put_step-pos-requires : goal.put_step-pos-requires
put_step-pos-requires c =
    let n = c.transition_count-n.ensures in
    omega (arith, c.requires c.loop-k.k (omega arith), c.loop-k.invariant.count)

pub loop-k-preserved : goal.loop-k-preserved
loop-k-preserved c = table-written (step_at c.args.sheet.now) c.loop-k.k c.loop-k.invariant c.put_step-pos.ensures

pub returns : goal.returns
returns c =
    let e : c.loop-k.k ≡ transitions_of c.args.sheet.now = let n = c.transition_count-n.ensures in omega arith in
    rw (← e) (written-pair c.loop-k.invariant)
