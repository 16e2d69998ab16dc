-- `fresh_marking::start_marking`: the answers to the goals that the check leaves.
use mathlib.Core.Path.{ap, sym, ◌∙◌}
use Rattle.net.proofs.Tables.{length-table}
use Rattle.net.specs.Limits.{max_bases}
use Rattle.format.specs.NetOf.{start_bond_count, nth_start_bond}
use Rattle.marking.specs.Form.{padded}
use Rattle.fresh_marking.proofs.start_marking.Goals as goal

pub placed-places-requires : goal.placed-places-requires
placed-places-requires c = rw c.start_places.ensures c.requires.places

pub returns : goal.returns
returns c =
    let p = c.placed-places.ensures ∙ ap (padded max_bases) c.start_places.ensures in
    let k = c.start_bond_count-count.ensures ∙ sym (length-table (start_bond_count c.args.sheet.now) (nth_start_bond c.args.sheet.now)) in
    λ i. record { places = p i; count = k i; lo = c.start_ends.ensures.0 i; hi = c.start_ends.ensures.1 i }
