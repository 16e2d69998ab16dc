-- `reasons::first_partner`: the answers to the goals that the check leaves.
use Rattle.std.proofs.Common.{◌≡◌, ◌<◌, sym, ◌∙◌, arith}
use Rattle.format.specs.Arcs.{entry_count, nth_entry, arcs_in}
use Rattle.format.proofs.Loops.{any-on}
use Rattle.reasons.specs.Reasons.{torn_from}
use Rattle.net.proofs.Firsts.{first-here, first-none}
use Rattle.reasons.proofs.first_partner.Goals as goal

pub returns-then-is_torn : goal.returns-then-is_torn
returns-then-is_torn c =
    let b = c.args.step.now in
    let h : c.loop-i.i < entry_count b = omega arith in
    λ s P. first-here (torn_from (arcs_in b) s c.args.e) (entry_count b) c.loop-i.i (nth_entry b) (c.loop-i.invariant s P) h _ c.entry.ensures
    (sym (c.is_torn.ensures (arcs_in b) s P) ∙ c.if-is_torn.true)

pub loop-i-preserved : goal.loop-i-preserved
loop-i-preserved c =
    let b = c.args.step.now in
    λ s P. any-on (torn_from (arcs_in b) s c.args.e) (nth_entry b) c.loop-i.i (c.loop-i.invariant s P) _ c.entry.ensures
    (sym (c.is_torn.ensures (arcs_in b) s P) ∙ c.if-is_torn.false)

pub returns : goal.returns
returns c =
    let b = c.args.step.now in
    let e : c.loop-i.i ≡ entry_count b = omega arith in
    λ s P. c.entry_count-n.ensures ∙ first-none (torn_from (arcs_in b) s c.args.e) (entry_count b) c.loop-i.i (nth_entry b) e (c.loop-i.invariant s P)
