-- `sheet_print::put_part`: the answers to the goals that the check leaves.
use mathlib.Core.Path.{ap, ◌∙◌}
use Prim.Native.Nat.{ℕ}
use lib.ListN.{get_or}
use mathlib.Core.List.{List}
use Rattle.sheet_print.proofs.Lines.{wrote-part}
use Rattle.sheet_print.proofs.put_part.Goals as goal

pub returns : goal.returns
returns c =
    let e = c.byte_at-x.ensures ∙ ap (λ (l : List ℕ). get_or l c.args.i 0) c.start_places-places.ensures in
    wrote-part c.args.buf.now c.args.at c.args.i c.byte_at-x.result _ e c.put_two.ensures
