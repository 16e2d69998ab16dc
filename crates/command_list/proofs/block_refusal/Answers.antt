-- `command_list::block_refusal`: the answers to the goals that the check leaves.
-- the three answers
use mathlib.Core.Path.{◌≡◌, sym, ◌∙◌}
use mathlib.Core.Bool.{true, false}
use mathlib.Core.List.{List}
use Prim.Native.Nat.{ℕ}
use borrow.Author.Tests.{eq-eqb, ne_eqb}
use Rattle.command_list.specs.Block.{unfit_for, turned_by}
use Rattle.command_list.proofs.block_refusal.Goals as goal

module _ (n : ℕ) (b : List ℕ) (w v : ℕ) where
  by_number : (n ≡ 0 → ⊥) → n ≡ turned_by n b w v
  by_number h = rw (ne_eqb n 0 h)

  by-room : n ≡ 0 → unfit_for b w v ≡ true → 26 ≡ turned_by n b w v
  by-room h u = rw (eq-eqb n 0 h, u)

  by-none : n ≡ 0 → unfit_for b w v ≡ false → 0 ≡ turned_by n b w v
  by-none h u = rw (eq-eqb n 0 h, u)

pub returns-then-refusal-ne0 : goal.returns-then-refusal-ne0
returns-then-refusal-ne0 c = by_number _ c.args.block.now _ _ c.if-refusal-ne0.true

pub returns-then-unfit : goal.returns-then-unfit
returns-then-unfit c = by-room _ c.args.block.now _ _ c.if-refusal-ne0.false (sym c.unfit.ensures ∙ c.if-unfit.true)

pub returns-else-unfit : goal.returns-else-unfit
returns-else-unfit c = by-none _ c.args.block.now _ _ c.if-refusal-ne0.false (sym c.unfit.ensures ∙ c.if-unfit.false)
