-- `why::why_away`: the answers to the goals that the check leaves.
-- the function's start
use Rattle.std.proofs.Common.{ℕ, ap, ◌∙◌, get_or}
use Rattle.why.specs.declared.Reason.TheVariants as Reason
use Rattle.why.proofs.Items.{entries-low, away-low, away-is}
use Rattle.why.proofs.why_away.Goals as goal

pub first_away-i-requires : goal.first_away-i-requires
first_away-i-requires c = entries-low c.args.sheet.now c.args.r c.args.bytes.now c.requires.sound c.step_named-step.result.now c.step_named-step.ensures

pub bounds-places-from : goal.bounds-places-from
bounds-places-from c = rw c.from.ensures (away-low c.args.sheet.now c.args.r c.args.bytes.now c.requires.sound c.step_named-step.result.now c.step_named-step.ensures c.requires c.first_away-i.result c.first_away-i.ensures c.entry-e.result c.entry-e.ensures)

pub returns : goal.returns
returns c =
    ap (λ (k : ℕ). Reason.Away c.entry-e.result (get_or c.args.r.marking.places k 0)) c.from.ensures
    ∙ away-is c.args.sheet.now c.args.r c.args.bytes.now c.requires.sound c.step_named-step.result.now c.step_named-step.ensures c.requires c.first_away-i.result c.first_away-i.ensures c.entry-e.result c.entry-e.ensures
