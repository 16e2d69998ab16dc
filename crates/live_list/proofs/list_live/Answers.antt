-- `live_list::list_live`: the answers to the goals that the check leaves.
use borrow.Author.Rules.{rules}
use Rattle.net.specs.Limits.{max_live}
use Rattle.net.specs.declared.Verdict.TheVariants.{Accepted}
use Rattle.firings.proofs.Made.{made-table}
use Rattle.live_list.specs.List.{live_at}
use Rattle.live_list.proofs.list_live.Goals as goal

pub returns : goal.returns
returns c =
    let f = c.args.f.now in
    let made = made-table _ (live_at f) _ (λ i y q h. search rules) c.from_fn.result max_live c.from_fn.ensures.items in
    λ j. record { answer = Accepted; count = f.live; firings = made j }
