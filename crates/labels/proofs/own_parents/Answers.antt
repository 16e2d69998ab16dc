-- `labels::own_parents`: the answers to the goals that the check leaves.
use Rattle.std.proofs.Common.{◌≡◌, ◌<◌, ℕ, rules, get_or}
use Rattle.net.specs.Limits.{max_bases}
use Rattle.net.proofs.Tables.{list-table}
use Rattle.labels.proofs.own_parents.Goals as goal

pub returns : goal.returns
returns c =
    let each : (p : ℕ) → p < max_bases → get_or c.from_fn.result p 0 ≡ p = λ p h. let called = (c.from_fn.ensures.items.at p 0 h).2 in search rules in
    list-table max_bases (λ p. p) c.from_fn.result 0 c.from_fn.ensures.items.long each
