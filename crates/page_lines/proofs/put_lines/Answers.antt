-- `page_lines::put_lines`: the answers to the goals that the check leaves.
use borrow.Author.Rules.{rules}
use native.Mathlib.Omega.{arith}
use Prim.Native.Nat.{◌*◌, ◌+◌, ◌-◌}
use Rattle.page_lines.proofs.Lines.{table_filled}
use Rattle.page_lines.specs.Page.{line_at, rows_in}
use Rattle.text.proofs.Joined.{table-written}
use Rattle.page_lines.proofs.put_lines.Goals as goal

pub loop-i-preserved : goal.loop-i-preserved
loop-i-preserved c =
    let rs = rows_in c.args.keys.now c.args.steps.now c.args.moved.now c.args.n in
    let done = c.put_line_at-pos.ensures in (
      omega (arith, done.1, c.loop-i.invariant.0),
      search rules,
      table-written (λ j. line_at rs (50 * (c.args.number - 1) + j)) c.loop-i.i c.loop-i.invariant.2 done.0,
    )

pub returns : goal.returns
returns c =
    let rs = rows_in c.args.keys.now c.args.steps.now c.args.moved.now c.args.n in
    (table_filled {i = c.loop-i.i} 50 (λ j. line_at rs (50 * (c.args.number - 1) + j)) (omega arith) c.loop-i.invariant.2, omega (arith, c.loop-i.invariant.0))
