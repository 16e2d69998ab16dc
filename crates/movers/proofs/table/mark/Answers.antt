-- `movers::table::mark`: the answers to the goals that the check leaves.
use native.Mathlib.Omega.{arith}
use mathlib.Core.Path.{◌≡◌, ap, sym, ◌∙◌}
use Prim.Native.Nat.{ℕ}
use lib.ListN.{set, length-set}
use mathlib.Core.List.{List}
use mathlib.Core.Bool.{Bool}
use Rattle.net.specs.Limits.{max_bases}
use Rattle.words.specs.Sets.{set_of}
use Rattle.words.proofs.Bits.{set-size}
use Rattle.movers.specs.Lamp.{marked}
use Rattle.movers.proofs.Marks.{mark-none, mark-turn}
use Rattle.movers.proofs.table.mark.Goals as goal

pub loop-left-preserved : goal.loop-left-preserved
loop-left-preserved c =
    let m : List Bool = set_of max_bases c.loop-left.left in
    let p : ℕ = c.lowest_base-p.result in
    let (low, is) = c.lowest_base-p.ensures in
    let size = c.loop-left.invariant.0 in
    let wide = set-size max_bases c.loop-left.left in (
      length-set c.loop-left.table p c.args.key.0 ∙ size,
      ap (λ (x : List Bool). marked max_bases x c.args.key.0 (set c.loop-left.table p c.args.key.0)) c.without_base-left.ensures.result_value
          ∙ mark-turn max_bases m p c.args.key.0 c.loop-left.table (omega arith) (omega arith) is ∙ c.loop-left.invariant.1,
    )

pub returns : goal.returns
returns c =
    let e : c.loop-left.left ≡ 0 = c.loop-left-test.false in
    sym (mark-none max_bases c.args.key.0 c.loop-left.table c.loop-left.invariant.0) ∙ ap (λ (w : ℕ). marked max_bases (set_of max_bases w) c.args.key.0 c.loop-left.table) (sym e) ∙ c.loop-left.invariant.1
