-- `firings::Firings::index_of`: the answers to the goals that the check leaves.
use mathlib.Core.Path.{◌∙◌}
use Rattle.firings.proofs.Search.{all-lower, other_key, this_key}
use Rattle.firings.proofs.Firings.index_of.Goals as goal
use Rattle.firings.proofs.Firings.index_of.Goals.{else-n-self-via-then-n-self+else-self-n, else-n-self-via-else-n-self}

pub returns-then-self-n : goal.returns-then-self-n
returns-then-self-n c =
    let f = c.args.self.now in
    (this_key c.args.key f.keys f.live _ c.requires.1 (c.from-n.ensures ∙ c.lower_keys.ensures) c.if-n-self.true c.if-self-n.true, c.if-n-self.true)

pub returns-else-n-self : goal.returns-else-n-self
returns-else-n-self c =
    let f = c.args.self.now in
    let n = c.from-n.ensures ∙ c.lower_keys.ensures in
    elim c.else-n-self.branch [
      | else-n-self-via-then-n-self+else-self-n w ↦ other_key c.args.key f.keys f.live _ c.requires.1 n w.if-n-self.true w.if-self-n.false
      | else-n-self-via-else-n-self w ↦ all-lower c.args.key f.keys f.live _ c.requires.1 n w.if-n-self.false
    ]
