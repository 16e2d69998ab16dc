-- `lamps::show`: the answers to the goals that the check leaves.
use borrow.Author.Rules.{rules}
use Rattle.net.specs.Limits.{max_bases, max_live}
use Rattle.firings.specs.Lines.{lines_in}
use Rattle.firings.proofs.Made.{made-table}
use Rattle.lamps.specs.Lamps.{flag_at}
use Rattle.lamps.proofs.Flags.{all_shown}
use Rattle.lamps.proofs.show.Goals as goal

pub returns : goal.returns
returns c =
    let f = c.args.f.now in
    let t = c.args.movers.now in
    all_shown f t c.from_fn.result (made-table _ (flag_at t (lines_in max_bases f)) _ (λ i y q h. search rules) c.from_fn.result max_live c.from_fn.ensures.items)
