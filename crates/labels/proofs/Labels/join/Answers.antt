-- `labels::Labels::join`: the answers to the goals that the check leaves.
use Rattle.labels.proofs.Members.{labelled-join, labelled-stay, fits-join}
use Rattle.labels.proofs.Labels.join.Goals as goal

pub returns-then-to-from-clause-labelled : goal.returns-then-to-from-clause-labelled
returns-then-to-from-clause-labelled c = λ bs L. labelled-stay bs c.args.b c.requires.1 c.args.self.now.of c.args.self.now.members c.if-to-from.true L

pub returns-clause-fits : goal.returns-clause-fits
returns-clause-fits c = fits-join c.args.b c.requires.1 c.args.self.now.of c.args.self.now.members _ _ c.rename_in.ensures c.requires.0

pub returns-clause-labelled : goal.returns-clause-labelled
returns-clause-labelled c = λ bs L. labelled-join bs c.args.b c.requires.1 c.args.self.now.of c.args.self.now.members _ _ c.union.ensures c.rename_in.ensures L
