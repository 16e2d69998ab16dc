-- `questions::spread`: the answers to the goals that the check leaves.
use Rattle.sound.proofs.Holds.{live-few, keys-rise}
use Rattle.questions.proofs.SpreadAsked.{spread-refused, spread-asked}
use Rattle.questions.proofs.spread.Goals as goal

pub returns-then-refusal-ne0 : goal.returns-then-refusal-ne0
returns-then-refusal-ne0 c = let both = spread-refused c.args.sheet.now c.args.r c.args.key _ c.refusal_on-refusal.ensures.value c.if-refusal-ne0.true _ c.tell_none.ensures in record { value = both.0; answer_value = both.1 }

pub spread_of-requires : goal.spread_of-requires
spread_of-requires c =
    let P = (c.refusal_on-refusal.ensures.sound c.if-refusal-ne0.false).passed in
    (live-few c.args.sheet.now c.args.r.marking c.args.r.firings c.args.r.given P, keys-rise c.args.sheet.now c.args.r.marking c.args.r.firings c.args.r.given P)

pub returns : goal.returns
returns c = let both = spread-asked c.args.sheet.now c.args.r c.args.key (c.refusal_on-refusal.ensures.sound c.if-refusal-ne0.false) _ c.spread_of.ensures in record { value = both.0; answer_value = both.1 }
