-- `movers::table::pass_four`: the answers to the goals that the check leaves.
use borrow.Author.Rules.{rules}
use mathlib.Core.Path.{sym, ◌∙◌}
use Rattle.net.specs.Limits.{max_bases}
use Rattle.words.specs.Sets.{set_of}
use Rattle.firings.proofs.Lines.{line_at}
use Rattle.movers.proofs.Marks.{back-passed}
use Rattle.movers.proofs.table.pass_four.Goals as goal

pub loop-i-preserved : goal.loop-i-preserved
loop-i-preserved c = (
  search rules,
  search rules,
  search rules,
  λ table. back-passed max_bases (line_at max_bases c.args.f.now) c.loop-i.i c.loop-i-test.true (set_of max_bases c.union-upper.result) (set_of max_bases c.union-lower.result) (set_of max_bases c.union.result) c.union-upper.ensures c.union-lower.ensures c.union.ensures (set_of max_bases c.args.set) (sym c.shares.ensures ∙ c.if-shares.false) table
      ∙ c.loop-i.invariant.3 table,
)
