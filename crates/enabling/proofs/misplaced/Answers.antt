-- `enabling::misplaced`: the answers to the goals that the check leaves.
-- the entry's base is not at its in-place
use mathlib.Core.Path.{◌≡◌, refl, sym, ◌∙◌, subst}
use Prim.Native.Nat.{◌<◌}
use native.Mathlib.Omega.{arith}
use Rattle.net.specs.Limits.{max_bases}
use Rattle.net.specs.declared.Entry.{Entry}
use Rattle.net.proofs.Tables.{any-more}
use Rattle.format.specs.Arcs.{entry_count, nth_entry, arcs_in}
use Rattle.groups.proofs.Moving.{table-each}
use Rattle.enabling.proofs.Readiness.{misplaced-here}
use Rattle.enabling.proofs.misplaced.Invariants.{away}
use Rattle.enabling.proofs.misplaced.Goals as goal

pub loop-i-init : goal.loop-i-init
loop-i-init c = refl

pub bounds-m-e : goal.bounds-m-e
bounds-m-e c =
    let h = subst (λ (x : Entry). x.base < max_bases) (sym c.entry-e.ensures) (c.requires c.loop-i.i (omega arith)) in
    omega arith

pub loop-i-preserved : goal.loop-i-preserved
loop-i-preserved c = rw (c.loop-i.invariant, c.entry-e.ensures) (sym (any-more (away c.args.m.now.places) c.loop-i.i (nth_entry c.args.step.now)))

pub returns : goal.returns
returns c =
    let b = c.args.step.now in
    let e : c.loop-i.i ≡ entry_count b = omega arith in
    λ n there. c.loop-i.invariant
    ∙ rw e (misplaced-here n (arcs_in b) (table-each (λ (x : Entry). x.base < n) (entry_count b) (nth_entry b) there) c.args.m.now)
