-- `reading::read_part`: the answers to the goals that the check leaves.
use native.Mathlib.Omega.{arith}
use Rattle.reading.proofs.Rooms.{front-stays}
use Rattle.reading.proofs.read_part.Goals as goal

pub returns-clause-before : goal.returns-clause-before
returns-clause-before g c = front-stays c.args.at c.args.room.now _ (omega arith)
