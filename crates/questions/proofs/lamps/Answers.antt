-- `questions::lamps`: the answers to the goals that the check leaves.
use Rattle.sound.proofs.Holds.{keys-rise}
use Rattle.questions.proofs.LampsAsked.{lamps-refused, lamps-shown}
use Rattle.questions.proofs.lamps.Goals as goal

pub returns-then-refusal-ne0 : goal.returns-then-refusal-ne0
returns-then-refusal-ne0 c = let both = lamps-refused c.args.sheet.now c.args.r _ c.refusal_on-refusal.ensures.value c.if-refusal-ne0.true _ c.show_none.ensures in record { value = both.0; answer_value = both.1 }

pub show-requires : goal.show-requires
show-requires c = keys-rise c.args.sheet.now c.args.r.marking c.args.r.firings c.args.r.given (c.refusal_on-refusal.ensures.sound c.if-refusal-ne0.false).passed

pub returns : goal.returns
returns c = let both = lamps-shown c.args.sheet.now c.args.r (c.refusal_on-refusal.ensures.sound c.if-refusal-ne0.false) _ c.show.ensures in record { value = both.0; answer_value = both.1 }
