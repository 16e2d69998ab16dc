-- `sheet_print::put_one`: the answers to the goals that the check leaves.
use native.Mathlib.Omega.{arith}
use mathlib.Core.List.{[], ◌∷◌}
use Rattle.sheet_print.specs.Pieces.{named}
use Rattle.sheet_print.proofs.Lines.{wrote-both, named-length}
use Rattle.sheet_print.proofs.put_one.Goals as goal

pub put_word-requires : goal.put_word-requires
put_word-requires c = omega (arith, named-length c.args.word.now c.args.n)

pub returns : goal.returns
returns c = wrote-both c.args.buf.now c.args.at (named c.args.word.now c.args.n) (10 ∷ []) c.put_named-a.ensures c.put_word.ensures
