-- `movers::table::mark_back`: the answers to the goals that the check leaves.
use borrow.Author.Rules.{rules}
use native.Mathlib.Omega.{arith}
use mathlib.Core.Path.{◌≡◌, ap, ap₂, sym, ◌∙◌}
use mathlib.Core.List.{List}
use mathlib.Core.Bool.{Bool}
use Prim.Native.Nat.{ℕ, suc, ◌-◌}
use lib.ListN.{length, get_or}
use Rattle.net.specs.Limits.{max_bases}
use Rattle.words.specs.Sets.{set_of, meet}
use Rattle.firings.specs.Lines.{lines_in}
use Rattle.firings.proofs.Lines.{line_at}
use Rattle.movers.specs.Lamp.{given_back}
use Rattle.movers.proofs.Marks.{marked-size, back-turn, back_none}
use Rattle.movers.proofs.table.mark_back.Goals as goal

pub returns-then-left-eq0 : goal.returns-then-left-eq0
returns-then-left-eq0 c = back_none max_bases (lines_in max_bases (record c.args.f.now { live = c.loop-i.i })) c.loop-i.left c.loop-i.table c.if-left-eq0.true c.loop-i.invariant.2 ∙ c.loop-i.invariant.3

pub loop-i-preserved : goal.loop-i-preserved
loop-i-preserved c =
    let f = c.args.f.now in
    let i : ℕ = c.pass_four-i.result - 1 in
    let m : List Bool = set_of max_bases c.loop-i.left in
    let (marks, rest) = c.mark_shared-left.ensures in (
      search rules,
      c.loop-i.invariant.1,
      ap length marks ∙ marked-size max_bases (meet m (set_of max_bases (get_or f.moved i 0))) (get_or f.keys i 0) c.loop-i.table,
      ap₂ (given_back max_bases (lines_in max_bases (record f { live = i }))) rest marks ∙ back-turn max_bases (line_at max_bases f) i m c.loop-i.table
          ∙ ap (λ (k : ℕ). given_back max_bases (lines_in max_bases (record f { live = k })) m c.loop-i.table) (let e : suc i ≡ c.pass_four-i.result = omega arith in e)
          ∙ c.pass_four-i.ensures.by_index c.loop-i.table ∙ c.loop-i.invariant.3,
    )

pub returns : goal.returns
returns c =
    let e : c.loop-i.i ≡ 0 = omega arith in
    c.mark.ensures ∙ ap (λ (k : ℕ). given_back max_bases (lines_in max_bases (record c.args.f.now { live = k })) (set_of max_bases c.loop-i.left) c.loop-i.table) (sym e) ∙ c.loop-i.invariant.3
