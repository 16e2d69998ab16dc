-- `enabling::kept_labels`: the answers to the goals that the check leaves.
use native.Mathlib.Omega.{arith}
use mathlib.Core.Path.{◌≡◌, subst}
use Prim.Native.Nat.{ℕ}
use mathlib.Core.Bool.{not}
use Rattle.net.specs.Tests.{keep}
use Rattle.net.specs.Firing.{broken_bond}
use Rattle.net.specs.declared.Bond.{Bond}
use Rattle.format.specs.Arcs.{arcs_in}
use Rattle.bonds.specs.Ends.{ends, bonds_in}
use Rattle.labels.specs.Labelled.{Labelled}
use Rattle.enabling.proofs.Keeping.{labelled-same, left-turn}
use Rattle.enabling.proofs.kept_labels.Goals as goal

pub join_kept-requires : goal.join_kept-requires
join_kept-requires c =
    let L = c.loop-i.invariant in
    ((L.parted.size, L.size, L.parted.low), rw c.bond_at.ensures (c.requires.by_index c.loop-i.i (omega arith)))

pub loop-i-preserved : goal.loop-i-preserved
loop-i-preserved c =
    let t = arcs_in c.args.step.now in
    let f : ℕ → Bond = ends c.args.m.now.lo c.args.m.now.hi in
    labelled-same _ _ _ _ (left-turn t c.loop-i.i f _ c.bond_at.ensures) (c.join_kept.ensures.labelled _ c.loop-i.invariant)

pub returns : goal.returns
returns c =
    let e : c.loop-i.i ≡ c.args.m.now.count = omega arith in
    subst (λ (k : ℕ). Labelled c.loop-i.labels.of c.loop-i.labels.members (keep (λ (b : Bond). not (broken_bond (arcs_in c.args.step.now) b)) (bonds_in c.args.m.now.lo c.args.m.now.hi k))) e c.loop-i.invariant
