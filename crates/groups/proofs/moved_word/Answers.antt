-- `groups::moved_word`: the answers to the goals that the check leaves.
use mathlib.Core.Path.{◌≡◌, sym, ◌∙◌, ap, subst}
use Prim.Native.Nat.{ℕ, ◌<◌}
use native.Mathlib.Omega.{arith}
use Rattle.net.specs.Limits.{max_bases}
use Rattle.net.specs.Tests.{table}
use Rattle.net.specs.declared.Entry.{Entry}
use Rattle.format.specs.Arcs.{arcs_in, entry_count, nth_entry}
use Rattle.words.proofs.Bits.{no-bases}
use Rattle.labels.specs.Labelled.{label_in}
use Rattle.groups.proofs.Moving.{moves_by, moves-turn, moves-parted, table-each}
use Rattle.groups.proofs.moved_word.Goals as goal
use Rattle.groups.proofs.moved_word.Goals.{After-entry-base}

-- the entry's base and its label are below the limit
near : (c : After-entry-base) → c.entry-base.result.base < max_bases
near c =
    subst (λ (x : Entry). x.base < max_bases) (sym c.entry-base.ensures) (c.requires.by_index c.loop-i.i (omega arith))

low : (c : After-entry-base) → label_in c.args.labels.now.of c.entry-base.result.base < max_bases
low c = let (bs, L) = c.requires.labelled in L.parted.low c.entry-base.result.base (near c)

pub loop-i-init : goal.loop-i-init
loop-i-init c = no-bases max_bases

pub bounds-labels-base : goal.bounds-labels-base
bounds-labels-base c = let h = near (goal.at.bounds-labels-base c).After-entry-base in omega arith

pub bounds-labels-x : goal.bounds-labels-x
bounds-labels-x c = let h = low (goal.at.bounds-labels-x c).After-entry-base in omega arith

pub loop-i-preserved : goal.loop-i-preserved
loop-i-preserved c =
    let (bs, L) = c.requires.labelled in
    moves-turn max_bases (label_in c.args.labels.now.of) c.loop-i.i (nth_entry c.args.step.now) c.entry-base.result c.loop-i.w _ _
    c.entry-base.ensures c.loop-i.invariant (L.holds c.entry-base.result.base (near (goal.at.loop-i-preserved c).After-entry-base)) c.union-w.ensures

pub returns : goal.returns
returns c =
    let b = c.args.step.now in
    let e : c.loop-i.i ≡ entry_count b = omega arith in
    λ bs L. c.loop-i.invariant ∙ ap (λ (k : ℕ). table max_bases (moves_by (label_in c.args.labels.now.of) (table k (nth_entry b)))) e
    ∙ moves-parted max_bases c.args.labels.now.of bs L.parted (arcs_in b).entries
    (table-each (λ (x : Entry). x.base < max_bases) (entry_count b) (nth_entry b) c.requires.by_index)
