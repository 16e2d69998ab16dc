-- `marking::insert`: the answers to the goals that the check leaves.
use Rattle.std.proofs.Common.{arith}
use Rattle.marking.proofs.Moves.{insert-moved}
use Rattle.marking.proofs.insert.Goals as goal

pub returns : goal.returns
returns c =
    insert-moved c.args.k c.args.n c.args.x c.args.a.now _ c.copy_within.ensures.len (omega arith) c.requires.0 c.copy_within.ensures.after c.copy_within.ensures.by_index.1 c.copy_within.ensures.by_index.0
