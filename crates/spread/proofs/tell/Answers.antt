-- `spread::tell`: the answers to the goals that the check leaves.
use borrow.Author.Rules.{rules}
use mathlib.Core.Path.{ap}
use mathlib.Core.Bool.{Bool}
use mathlib.Core.List.{List}
use Rattle.net.specs.Limits.{max_bases}
use Rattle.net.specs.Firing.{in_set}
use Rattle.net.specs.declared.Verdict.TheVariants.{Accepted}
use Rattle.words.specs.Sets.{set_of}
use Rattle.firings.proofs.Made.{made-table}
use Rattle.spread.proofs.tell.Goals as goal

pub returns : goal.returns
returns c =
    ap (λ (l : List Bool). record { answer = Accepted; parts = l })
    (made-table _ (in_set (set_of max_bases c.args.set)) _ (λ i y q h. search rules) c.from_fn.result max_bases c.from_fn.ensures.items)
