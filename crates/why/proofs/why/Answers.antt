-- `why::why`: the answers to the goals that the check leaves.
use mathlib.Core.Path.{◌∙◌}
use Rattle.sound.proofs.Refusing.{kept-is}
use Rattle.session.specs.Records.{Sound}
use Rattle.why.proofs.Answers.{why-by, why-sheet, why-record}
use Rattle.why.proofs.Numbers.{first-own}
use Rattle.why.proofs.why.Goals as goal

pub returns-then-refusal-eq10 : goal.returns-then-refusal-eq10
returns-then-refusal-eq10 c = why-record c.args.sheet.now c.args.r c.args.bytes.now _ c.refusal_on-refusal.ensures.value c.if-refusal-eq10.true

pub returns-then-refusal-ne0 : goal.returns-then-refusal-ne0
returns-then-refusal-ne0 c = why-sheet c.args.sheet.now c.args.r c.args.bytes.now _ c.refusal_on-refusal.ensures.value c.if-refusal-ne0.true c.if-refusal-eq10.false

pub reason_by-requires : goal.reason_by-requires
reason_by-requires c =
    let p : Sound c.args.sheet.now c.args.r = c.refusal_on-refusal.ensures.sound c.if-refusal-ne0.false in
    (p, c.number_of.ensures ∙ first-own c.args.sheet.now c.args.r c.args.bytes.now p.passed.accepted (kept-is c.args.sheet.now c.args.r.marking c.args.r.firings c.args.r.given c.args.r.movers p))

pub returns-else-refusal-ne0 : goal.returns-else-refusal-ne0
returns-else-refusal-ne0 c = why-by c.args.sheet.now c.args.r c.args.bytes.now c.number_of.result c.number_of.ensures _ c.reason_by.ensures
