-- `groups::send_back`: the answers to the goals that the check leaves.
-- the base is in the set
use mathlib.Core.Path.{◌≡◌, refl, sym, ◌∙◌, ap, subst}
use mathlib.Core.Bool.{true}
use Prim.Native.Nat.{◌-◌, ◌<◌}
use native.Mathlib.Omega.{arith}
use borrow.Author.Rules.{rules}
use Rattle.net.specs.Limits.{max_bases}
use Rattle.net.specs.declared.Entry.{Entry}
use Rattle.format.specs.Arcs.{entry_count, nth_entry}
use Rattle.labels.specs.Labelled.{label_in}
use Rattle.groups.specs.Groups.{side}
use Rattle.groups.proofs.Sending.{sentFrom, sent-none, sent-turn}
use Rattle.groups.proofs.send_back.Invariants.{may}
use Rattle.groups.proofs.send_back.Goals as goal
use Rattle.groups.proofs.send_back.Goals.{After-entry-e}

-- the entry's base is below the limit
near : (c : After-entry-e) → c.entry-e.result.base < max_bases
near c =
    subst (λ (x : Entry). x.base < max_bases) (sym c.entry-e.ensures) (c.requires.by_index (c.loop-i.i - 1) (omega arith))

pub loop-i-init : goal.loop-i-init
loop-i-init c =
    sent-none max_bases (entry_count c.args.step.now) (may c.args.moved) (side true) (label_in c.args.labels.now.of) (nth_entry c.args.step.now) c.args.places.now
    c.entry_count-i.result c.entry_count-i.ensures (search rules)

pub bounds-labels-e : goal.bounds-labels-e
bounds-labels-e c = let h = near (goal.at.bounds-labels-e c).After-entry-e in omega arith

pub send_moved-requires : goal.send_moved-requires
send_moved-requires c =
    let (bs, L) = c.requires.labelled in
    let h = near (goal.at.send_moved-requires c).After-entry-e in
    (L.parted.low c.entry-e.result.base h, L.holds c.entry-e.result.base h)

pub loop-i-preserved : goal.loop-i-preserved
loop-i-preserved c =
    sent-turn max_bases (entry_count c.args.step.now) (may c.args.moved) (side true) (label_in c.args.labels.now.of) (nth_entry c.args.step.now) c.args.places.now
    c.loop-i.i c.entry-e.result _ c.entry-e.result.from c.loop-i.places _ (omega arith) (omega arith)
    c.entry-e.ensures refl refl c.loop-i.invariant c.send_moved.ensures

pub returns : goal.returns
returns c =
    let e : c.loop-i.i ≡ 0 = omega arith in
    c.loop-i.invariant
    ∙ ap (sentFrom max_bases (entry_count c.args.step.now) (may c.args.moved) (side true) (label_in c.args.labels.now.of) (nth_entry c.args.step.now) c.args.places.now) e
