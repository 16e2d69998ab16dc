-- `questions::can_undo`: the answers to the goals that the check leaves.
use mathlib.Core.Path.{◌∙◌}
use Rattle.sound.proofs.Holds.{live-few, keys-rise}
use Rattle.questions.proofs.LampsAsked.{lamp-refused, lamp-asked}
use Rattle.questions.proofs.can_undo.Goals as goal

pub returns-then-refusal-ne0 : goal.returns-then-refusal-ne0
returns-then-refusal-ne0 c = lamp-refused c.args.sheet.now c.args.r _ c.refusal_on-refusal.ensures.value c.if-refusal-ne0.true c.args.key

pub is_lit-requires : goal.is_lit-requires
is_lit-requires c =
    let P = (c.refusal_on-refusal.ensures.sound c.if-refusal-ne0.false).passed in
    (live-few c.args.sheet.now c.args.r.marking c.args.r.firings c.args.r.given P, keys-rise c.args.sheet.now c.args.r.marking c.args.r.firings c.args.r.given P)

pub returns : goal.returns
returns c = c.is_lit.ensures ∙ lamp-asked c.args.sheet.now c.args.r (c.refusal_on-refusal.ensures.sound c.if-refusal-ne0.false) c.args.key
