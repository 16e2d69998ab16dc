-- `spread::wider`: the answers to the goals that the check leaves.
use mathlib.Core.Path.{sym, ◌∙◌, ap}
use mathlib.Core.Bool.{Bool}
use Rattle.net.specs.Limits.{max_bases}
use Rattle.net.specs.Tests.{pick}
use Rattle.words.specs.Sets.{set_of, either}
use Rattle.spread.proofs.wider.Goals as goal

pub returns-then-shares : goal.returns-then-shares
returns-then-shares c =
    let a = set_of max_bases c.args.set in
    let b = set_of max_bases c.args.moved in
    c.union.ensures ∙ ap (λ (x : Bool). pick x (either a b) a) (sym (sym c.shares.ensures ∙ c.if-shares.true))

pub returns-else-shares : goal.returns-else-shares
returns-else-shares c =
    let a = set_of max_bases c.args.set in
    let b = set_of max_bases c.args.moved in
    ap (λ (x : Bool). pick x (either a b) a) (sym (sym c.shares.ensures ∙ c.if-shares.false))
