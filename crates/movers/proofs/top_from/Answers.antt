-- `movers::top_from`: the answers to the goals that the check leaves.
use native.Mathlib.Omega.{arith}
use mathlib.Core.Path.{sym, ◌∙◌}
use Prim.Native.Nat.{◌<◌}
use lib.ListN.{get_or}
use Rattle.net.specs.Limits.{max_bases}
use Rattle.net.specs.Journal.{no_line}
use Rattle.net.proofs.Tables.{length-table}
use Rattle.firings.specs.Lines.{lines_in}
use Rattle.firings.proofs.Lines.{line_at}
use Rattle.movers.specs.Tops.{sharing}
use Rattle.movers.proofs.Tops.{top-gives, top-stays, top-end}
use Rattle.movers.proofs.top_from.Goals as goal
use Rattle.movers.proofs.top_from.Goals.{then-shares, else-shares}

pub loop-i-preserved : goal.loop-i-preserved
loop-i-preserved c =
    let f = c.args.f.now in
    let (low, is) = c.loop-i.invariant in
    let here : c.loop-i.top < f.live = omega arith in
    elim c.if-shares.branch [
      | then-shares w ↦ rw w.top-is (omega arith, top-gives sharing f.live (line_at max_bases f) c.loop-i.top c.loop-i.i here c.loop-i-test.true (sym c.shares.ensures ∙ w.if-shares.true) ∙ is)
      | else-shares w ↦ rw w.top-is (omega arith, top-stays sharing f.live (line_at max_bases f) c.loop-i.top c.loop-i.i here c.loop-i-test.true (sym c.shares.ensures ∙ w.if-shares.false) ∙ is)
    ]

pub returns : goal.returns
returns c =
    let f = c.args.f.now in
    let ls = lines_in max_bases f in
    let (low, is) = c.loop-i.invariant in
    record {
      upper_bound = omega arith;
      by_index = sym (top-end sharing ls (get_or ls c.loop-i.top no_line) c.loop-i.i (rw length-table (omega arith))) ∙ is;
    }
