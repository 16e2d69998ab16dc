-- `questions::live_firings`: the answers to the goals that the check leaves.
use Rattle.questions.proofs.LiveAsked.{list-refused, list-given}
use Rattle.questions.proofs.live_firings.Goals as goal

pub returns-then-refusal-ne0 : goal.returns-then-refusal-ne0
returns-then-refusal-ne0 c = let both = list-refused c.args.sheet.now c.args.r _ c.refusal_on-refusal.ensures.value c.if-refusal-ne0.true _ c.no_live.ensures in record { value = both.0; answer_value = both.1 }

pub returns : goal.returns
returns c = let both = list-given c.args.sheet.now c.args.r (c.refusal_on-refusal.ensures.sound c.if-refusal-ne0.false) _ c.list_live.ensures in record { value = both.0; answer_value = both.1 }
