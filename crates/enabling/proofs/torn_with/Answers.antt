-- `enabling::torn_with`: the answers to the goals that the check leaves.
use mathlib.Core.Path.{◌∙◌}
use Prim.Native.Nat.{◌<◌}
use Rattle.net.specs.Limits.{max_bases}
use Rattle.net.specs.declared.Entry.{Entry}
use Rattle.format.specs.Arcs.{arcs_in, entry_count, nth_entry}
use Rattle.groups.proofs.Moving.{table-each}
use Rattle.enabling.proofs.Tearing.{torn-sent}
use Rattle.enabling.proofs.torn_with.Goals as goal

pub returns : goal.returns
returns c =
    let b = c.args.step.now in
    λ k P. c.elsewhere.ensures
    ∙ torn-sent max_bases c.args.l.now (arcs_in b) k P (table-each (λ (x : Entry). x.base < max_bases) (entry_count b) (nth_entry b) c.requires)
    c.args.places.now _ c.send_entries.ensures
