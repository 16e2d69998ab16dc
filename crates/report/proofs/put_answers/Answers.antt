-- `report::put_answers`: the answers to the goals that the check leaves.
use borrow.Author.Rules.{rules}
use native.Mathlib.Omega.{arith}
use mathlib.Core.Path.{◌≡◌, ◌∙◌}
use native.Mathlib.Nat.{zero-add}
use Rattle.text.proofs.Joined.{table-written}
use Rattle.report.specs.Said.{line_at}
use Rattle.report.proofs.put_answers.Goals as goal

pub put_line-pos-requires : goal.put_line-pos-requires
put_line-pos-requires c = (search rules, c.requires.4 c.loop-i.i c.loop-i-test.true)

pub loop-i-preserved : goal.loop-i-preserved
loop-i-preserved c =
    let done = c.put_line-pos.ensures in (
      omega (arith, done.upper_bound, c.loop-i.invariant.0),
      table-written (line_at c.args.words.now c.args.values.now) c.loop-i.i c.loop-i.invariant.1 done.wrote,
    )

pub returns : goal.returns
returns c =
    let e : c.loop-i.i ≡ c.args.n = omega arith in
    let w = c.loop-i.invariant.1 in
    record {
      filled = rw (← e) (w.count ∙ zero-add _, w.list);
      upper_bound = omega (arith, c.loop-i.invariant.0, e);
    }
