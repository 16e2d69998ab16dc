-- `movers::table::on_top`: the answers to the goals that the check leaves.
use native.Mathlib.Omega.{arith}
use mathlib.Core.Path.{◌≡◌, ap, sym, ◌∙◌}
use Prim.Native.Nat.{ℕ}
use mathlib.Core.List.{List}
use mathlib.Core.Bool.{Bool}
use Rattle.net.specs.Limits.{max_bases}
use Rattle.words.specs.Sets.{set_of}
use Rattle.words.proofs.Bits.{set-size}
use Rattle.movers.specs.Lamp.{key_at_all}
use Rattle.movers.proofs.Marks.{top-none, top-turn, top-off}
use Rattle.movers.proofs.table.on_top.Goals as goal

pub returns-then-table-p : goal.returns-then-table-p
returns-then-table-p c =
    let (low, is) = c.lowest_base-p.ensures in
    sym (top-off max_bases c.args.table.now (set_of max_bases c.loop-rest.rest) c.lowest_base-p.result c.args.key.0 low is c.if-table-p.true) ∙ c.loop-rest.invariant

pub loop-rest-preserved : goal.loop-rest-preserved
loop-rest-preserved c =
    let (low, is) = c.lowest_base-p.ensures in
    let wide = set-size max_bases c.loop-rest.rest in
    ap (λ (x : List Bool). key_at_all max_bases c.args.table.now x c.args.key.0) c.without_base-rest.ensures.result_value
    ∙ top-turn max_bases c.args.table.now (set_of max_bases c.loop-rest.rest) c.lowest_base-p.result c.args.key.0 (omega arith) c.if-table-p.false ∙ c.loop-rest.invariant

pub returns : goal.returns
returns c =
    let e : c.loop-rest.rest ≡ 0 = c.loop-rest-test.false in
    sym (top-none max_bases c.args.table.now c.args.key.0) ∙ ap (λ (w : ℕ). key_at_all max_bases c.args.table.now (set_of max_bases w) c.args.key.0) (sym e) ∙ c.loop-rest.invariant
