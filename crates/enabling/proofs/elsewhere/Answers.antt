-- `enabling::elsewhere`: the answers to the goals that the check leaves.
-- the entry's base is not at its out-place
use mathlib.Core.Path.{◌≡◌, refl, sym, ◌∙◌, subst}
use Prim.Native.Nat.{◌<◌}
use native.Mathlib.Omega.{arith}
use Rattle.net.specs.Limits.{max_bases}
use Rattle.net.specs.declared.Entry.{Entry}
use Rattle.net.proofs.Tables.{any-more}
use Rattle.format.specs.Arcs.{entry_count, nth_entry}
use Rattle.enabling.proofs.elsewhere.Invariants.{away}
use Rattle.enabling.proofs.elsewhere.Goals as goal

pub loop-i-init : goal.loop-i-init
loop-i-init c = refl

pub bounds-places-e : goal.bounds-places-e
bounds-places-e c =
    let h = subst (λ (x : Entry). x.base < max_bases) (sym c.entry-e.ensures) (c.requires c.loop-i.i (omega arith)) in
    omega arith

pub loop-i-preserved : goal.loop-i-preserved
loop-i-preserved c = rw (c.loop-i.invariant, c.entry-e.ensures) (sym (any-more (away c.args.places.now) c.loop-i.i (nth_entry c.args.step.now)))

pub returns : goal.returns
returns c = let e : c.loop-i.i ≡ entry_count c.args.step.now = omega arith in c.loop-i.invariant ∙ rw e
