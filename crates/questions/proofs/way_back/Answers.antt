-- `questions::way_back`: the answers to the goals that the check leaves.
use mathlib.Core.Path.{◌∙◌}
use Rattle.questions.proofs.WayAsked.{way-refused, way_asked, way-number}
use Rattle.questions.proofs.way_back.Goals as goal

pub returns-then-refusal-ne0 : goal.returns-then-refusal-ne0
returns-then-refusal-ne0 c =
    let e = c.no_way.ensures ∙ way-refused c.args.sheet.now c.args.r c.args.layout.now _ c.refusal_on-refusal.ensures.value c.if-refusal-ne0.true in
    record {
      value = e;
      answer_value = way-number c.args.sheet.now c.args.r c.args.layout.now _ e;
    }

pub way_from-requires : goal.way_from-requires
way_from-requires c = (c.args.r.given, (c.refusal_on-refusal.ensures.sound c.if-refusal-ne0.false).passed)

pub returns : goal.returns
returns c =
    let p = c.refusal_on-refusal.ensures.sound c.if-refusal-ne0.false in
    let e = c.way_from.ensures c.args.r.given p.passed ∙ way_asked c.args.sheet.now c.args.r c.args.layout.now p in
    record {
      value = e;
      answer_value = way-number c.args.sheet.now c.args.r c.args.layout.now _ e;
    }
