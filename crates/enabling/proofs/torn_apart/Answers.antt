-- `enabling::torn_apart`: the answers to the goals that the check leaves.
use mathlib.Core.Path.{ap, sym, ◌∙◌}
use mathlib.Core.Bool.{not}
use mathlib.Core.List.{List}
use Rattle.net.specs.Tests.{keep}
use Rattle.net.specs.Firing.{broken_bond, torn_with}
use Rattle.net.specs.declared.Bond.{Bond}
use Rattle.format.specs.Arcs.{entry_count, nth_entry, arcs_in}
use Rattle.net.proofs.Tables.{length-table}
use Rattle.marking.specs.Form.{bonds_of}
use Rattle.enabling.proofs.Keeping.{left-all}
use Rattle.enabling.proofs.Tearing.{few-together}
use Rattle.enabling.proofs.torn_apart.Goals as goal

pub returns-then-entry_count-lt2 : goal.returns-then-entry_count-lt2
returns-then-entry_count-lt2 c =
    let b = c.args.step.now in
    let bs : List Bond = bonds_of c.args.m.now in
    few-together (arcs_in b) (keep (λ (x : Bond). not (broken_bond (arcs_in b) x)) bs) c.entry_count.result (c.entry_count.ensures ∙ sym (length-table (entry_count b) (nth_entry b))) c.if-entry_count-lt2.true

pub returns-then-breaks_none : goal.returns-then-breaks_none
returns-then-breaks_none c =
    let t = arcs_in c.args.step.now in
    let bs : List Bond = bonds_of c.args.m.now in
    c.torn_with.ensures bs c.requires.by_index_2.1 ∙ ap (torn_with t) (sym (left-all t (sym c.breaks_none.ensures ∙ c.if-breaks_none.true) bs))
