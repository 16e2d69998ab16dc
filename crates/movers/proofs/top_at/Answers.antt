-- `movers::top_at`: the answers to the goals that the check leaves.
use native.Mathlib.Omega.{arith}
use mathlib.Core.Path.{sym}
use Rattle.net.specs.Limits.{max_bases}
use Rattle.firings.specs.Lines.{lines_in}
use Rattle.firings.proofs.Lines.{lines-length}
use Rattle.movers.specs.Tops.{sharing}
use Rattle.movers.proofs.Tops.{top-none, top-found}
use Rattle.movers.proofs.top_at.Goals as goal

pub returns-in_err-c : goal.returns-in_err-c
returns-in_err-c c =
    let f = c.args.f.now in
    let size = lines-length max_bases f in
    rw c.from_residual.ensures (top-none sharing c.args.p (lines_in max_bases f) f.live c.in_err-c.ensures (omega arith) f.live (sym size))

pub returns : goal.returns
returns c =
    let f = c.args.f.now in
    let size = lines-length max_bases f in
    let low = c.top_from.ensures.upper_bound in
    let (last, here) = c.in_ok-c.ensures in
    (top-found sharing c.args.p (lines_in max_bases f) c.in_ok-c.c last (omega arith) c.top_from.result (omega arith) c.top_from.ensures.by_index, low)
