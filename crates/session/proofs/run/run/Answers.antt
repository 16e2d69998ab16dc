-- `session::run::run`: the answers to the goals that the check leaves.
use Rattle.session.proofs.Turns.{run-gives}
use Rattle.session.proofs.run.run.Goals as goal

pub returns : goal.returns
returns c = run-gives c.args.sheet.now c.args.commands.now c.args.r c.args.t c.requires.0 c.args.words.now c.args.values.now c.run_on-done.result.held c.run_on-done.result.tally _ _ (rw c.held.ensures at c.run_on-done.ensures) _ c.record_with.ensures
