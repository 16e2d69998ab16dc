-- `page::page`: the answers to the goals that the check leaves.
use mathlib.Core.Path.{ap, ◌∙◌}
use mathlib.Core.List.{List, foldl}
use lib.Seq.{take_all}
use native.Mathlib.Omega.{arith}
use Prim.Native.Nat.{◌≤◌}
use lib.ListN.{length}
use Rattle.firings.specs.declared.Firing.{Firing}
use Rattle.page.specs.Rows.{no_rows, with_firing}
use Rattle.page.proofs.Reading.{paged-of}
use Rattle.page.proofs.page.Goals as goal

pub returns : goal.returns
returns c =
    let over : length c.args.list.now ≤ c.loop-f.f-index = omega arith in
    paged-of c.args.list.now c.args.number c.args.buf.now _ _ c.loop-f.rows
    (c.loop-f.invariant ∙ ap (λ (fs : List Firing). foldl with_firing no_rows fs) (take_all c.loop-f.f-index c.args.list.now over))
    c.laid.ensures
