-- `movers::table::fits`: the answers to the goals that the check leaves.
use mathlib.Core.Path.{ap, ◌∙◌}
use lib.ListN.{replicate}
use lib.Dec.{eqb}
use Rattle.net.specs.Limits.{max_bases}
use Rattle.net.specs.Tests.{same_list}
use Rattle.firings.specs.Lines.{lines_in}
use Rattle.marking_form.proofs.Same.{pointwise-same}
use Rattle.movers.proofs.Marks.{movers-all}
use Rattle.movers.proofs.table.fits.Goals as goal

pub returns : goal.returns
returns c =
    let table = c.args.table.now in
    c.eq.ensures ∙ pointwise-same table c.mark_back.new.table ∙ ap (same_list eqb table) (c.mark_back.ensures ∙ movers-all (lines_in max_bases c.args.f.now) (replicate max_bases 0))
