-- `reasons::first_torn`: the answers to the goals that the check leaves.
use Rattle.std.proofs.Common.{◌≡◌, ◌<◌, ◌∙◌, arith}
use Rattle.net.specs.declared.Entry.{Entry}
use Rattle.format.specs.Arcs.{entry_count, nth_entry, arcs_in}
use Rattle.format.proofs.Loops.{any-on}
use Rattle.reasons.specs.Reasons.{torn_from, has_partner}
use Rattle.net.proofs.Firsts.{first-here, first-none, first-inside, first-outside}
use Rattle.reasons.proofs.first_torn.Goals as goal

pub returns-then-first_partner-n : goal.returns-then-first_partner-n
returns-then-first_partner-n c =
    let b = c.args.step.now in
    let h : c.loop-i.i < entry_count b = omega arith in
    let e : Entry = c.entry.result in
    λ s P. first-here (has_partner (arcs_in b) s) (entry_count b) c.loop-i.i (nth_entry b) (c.loop-i.invariant s P) h e c.entry.ensures
    (first-inside (torn_from (arcs_in b) s e) (entry_count b) (nth_entry b) c.first_partner.result (c.first_partner.ensures s P) (omega arith))

pub loop-i-preserved : goal.loop-i-preserved
loop-i-preserved c =
    let b = c.args.step.now in
    let e : Entry = c.entry.result in
    λ s P. any-on (has_partner (arcs_in b) s) (nth_entry b) c.loop-i.i (c.loop-i.invariant s P) e c.entry.ensures
    (first-outside (torn_from (arcs_in b) s e) (entry_count b) (nth_entry b) c.first_partner.result (c.first_partner.ensures s P) (omega arith))

pub returns : goal.returns
returns c =
    let b = c.args.step.now in
    let e : c.loop-i.i ≡ entry_count b = omega arith in
    λ s P. c.entry_count-n.ensures ∙ first-none (has_partner (arcs_in b) s) (entry_count b) c.loop-i.i (nth_entry b) e (c.loop-i.invariant s P)
