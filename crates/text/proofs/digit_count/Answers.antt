-- `text::digit_count`: the answers to the goals that the check leaves.
use borrow.Author.Rules.{rules}
use native.Mathlib.Omega.{arith}
use mathlib.Core.Path.{◌≡◌}
use Prim.Native.Nat.{◌≤◌}
use lib.ListN.{length}
use Rattle.text.specs.Decimal.{digits}
use Rattle.text.proofs.Loops.{counted-more, counted-all}
use Rattle.text.proofs.digit_count.Goals as goal

pub loop-unit-preserved : goal.loop-unit-preserved
loop-unit-preserved c = (search rules, search rules, search rules, counted-more c.loop-unit.invariant.0 (omega arith) c.loop-unit.invariant.3)

pub returns-clause-value : goal.returns-clause-value
returns-clause-value c =
    let all : c.loop-unit.count ≤ c.args.places → c.loop-unit.count ≡ length (digits c.args.places c.args.n) =
    λ l. counted-all c.loop-unit.invariant.0 (omega arith) l c.loop-unit.invariant.3 in
    grind (arith, all, c.loop-unit.invariant.3.beyond)
