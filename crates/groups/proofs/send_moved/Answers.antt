-- `groups::send_moved`: the answers to the goals that the check leaves.
use mathlib.Core.Path.{sym, ◌∙◌}
use lib.ListN.{get_or}
use Rattle.net.specs.Limits.{max_bases}
use Rattle.words.specs.Sets.{set_of}
use Rattle.labels.specs.Labelled.{label_in}
use Rattle.groups.proofs.Sending.{whole-goes}
use Rattle.groups.proofs.send_moved.Goals as goal

pub returns-then-within : goal.returns-then-within
returns-then-within c =
    c.send_group.ensures
    ∙ whole-goes max_bases c.args.x (label_in c.args.labels.now.of) _ (set_of max_bases c.args.moved) c.requires.1 (sym c.within.ensures ∙ c.if-within.true)
    c.args.to (λ p. get_or c.args.places.now p 0)
