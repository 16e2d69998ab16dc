-- `page::page_of`: the answers to the goals that the check leaves.
use mathlib.Core.Path.{◌≡◌, subst}
use mathlib.Core.List.{List}
use borrow.Author.Rules.{rules}
use lib.ListN.{length}
use Rattle.firings.specs.declared.Firing.{Firing}
use Rattle.page.specs.Rows.{lent_firings, Paged}
use Rattle.page.proofs.Reading.{cut-same}
use Rattle.page.proofs.page_of.Goals as goal

pub returns : goal.returns
returns c =
    let size : length c.args.firings ≡ lent_firings = search rules in
    subst (λ (fs : List Firing). Paged fs c.args.number c.args.buf.now c.page.result c.page.new.buf)
    (cut-same c.args.firings c.args.n c.at_most.result size c.at_most.ensures) c.page.ensures
