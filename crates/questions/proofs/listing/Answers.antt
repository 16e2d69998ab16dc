-- `questions::listing`: the answers to the goals that the check leaves.
use Rattle.sound.proofs.Holds.{live-few}
use Rattle.questions.proofs.ListingAsked.{listing-refused, listing-asked}
use Rattle.questions.proofs.listing.Goals as goal

pub returns-then-refusal-ne0 : goal.returns-then-refusal-ne0
returns-then-refusal-ne0 c = let both = listing-refused c.args.sheet.now c.args.r _ c.refusal_on-refusal.ensures.value c.if-refusal-ne0.true _ c.list_none.ensures in record { value = both.0; answer_value = both.1 }

pub list_steps-requires : goal.list_steps-requires
list_steps-requires c = live-few c.args.sheet.now c.args.r.marking c.args.r.firings c.args.r.given (c.refusal_on-refusal.ensures.sound c.if-refusal-ne0.false).passed

pub returns : goal.returns
returns c = let both = listing-asked c.args.sheet.now c.args.r (c.refusal_on-refusal.ensures.sound c.if-refusal-ne0.false) _ c.list_steps.ensures in record { value = both.0; answer_value = both.1 }
