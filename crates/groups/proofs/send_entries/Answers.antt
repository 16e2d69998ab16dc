-- `groups::send_entries`: the answers to the goals that the check leaves.
use mathlib.Core.Path.{◌≡◌, refl, sym, ◌∙◌, ap, subst}
use mathlib.Core.Bool.{true, false}
use Prim.Native.Nat.{◌-◌, ◌<◌}
use native.Mathlib.Omega.{arith}
use borrow.Author.Rules.{rules}
use Rattle.net.specs.Limits.{max_bases}
use Rattle.net.specs.declared.Entry.{Entry}
use Rattle.format.specs.Arcs.{entry_count, nth_entry}
use Rattle.labels.specs.Labelled.{label_in}
use Rattle.groups.specs.Groups.{side}
use Rattle.groups.proofs.Sending.{sentFrom, sent-none, sent-turn}
use Rattle.groups.proofs.send_entries.Goals as goal

pub loop-i-init : goal.loop-i-init
loop-i-init c =
    sent-none max_bases (entry_count c.args.step.now) (λ p. true) (side false) (label_in c.args.l.now) (nth_entry c.args.step.now) c.args.places.now
    c.entry_count-i.result c.entry_count-i.ensures (search rules)

pub bounds-l-e : goal.bounds-l-e
bounds-l-e c =
    let h = subst (λ (x : Entry). x.base < max_bases) (sym c.entry-e.ensures) (c.requires (c.loop-i.i - 1) (omega arith)) in
    omega arith

pub loop-i-preserved : goal.loop-i-preserved
loop-i-preserved c =
    sent-turn max_bases (entry_count c.args.step.now) (λ p. true) (side false) (label_in c.args.l.now) (nth_entry c.args.step.now) c.args.places.now
    c.loop-i.i c.entry-e.result _ c.entry-e.result.to c.loop-i.places _ (omega arith) (omega arith)
    c.entry-e.ensures refl refl c.loop-i.invariant c.send_group.ensures

pub returns : goal.returns
returns c =
    let e : c.loop-i.i ≡ 0 = omega arith in
    c.loop-i.invariant
    ∙ ap (sentFrom max_bases (entry_count c.args.step.now) (λ p. true) (side false) (label_in c.args.l.now) (nth_entry c.args.step.now) c.args.places.now) e
