-- `labels::unite_all`: the answers to the goals that the check leaves.
use Rattle.std.proofs.Common.{ℕ, ◌+◌, sym, arith}
use Rattle.net.specs.Limits.{max_bases}
use Rattle.net.specs.Tests.{table}
use Rattle.net.specs.declared.Bond.{Bond}
use Rattle.bonds.specs.Ends.{ends}
use Rattle.labels.proofs.Trees.{spans-own, spans-more}
use Rattle.labels.proofs.Roots.{roots-own, spans-rest}
use Rattle.labels.proofs.unite_all.Goals as goal

pub loop-i-init : goal.loop-i-init
loop-i-init c = (sym (roots-own max_bases c.args.n _ c.requires.n_le_max_bases.0 c.own_parents.ensures), spans-own max_bases _ c.own_parents.ensures)

pub unite-roots-requires : goal.unite-roots-requires
unite-roots-requires c =
    let k = c.requires.n_le_max_bases.0 in
    let (u, v) = c.requires.n_le_max_bases.1 c.loop-i.i (omega arith) in
    let e = c.bond_at.ensures in
    (rw e (omega arith, omega arith), c.loop-i.invariant.1.forest.down)

pub returns-then-roots-lt2 : goal.returns-then-roots-lt2
returns-then-roots-lt2 c =
    let g : ℕ → Bond = ends c.args.m.now.lo c.args.m.now.hi in
    let i = c.loop-i.i in
    let e = c.unite-roots.ensures.by_index c.args.n c.requires.n_le_max_bases.0 (rw c.bond_at.ensures (c.requires.n_le_max_bases.1 i (omega arith))) in
    let q = c.loop-i.invariant.0 in
    spans-rest max_bases c.args.n c.requires.n_le_max_bases.0 _ g (i + 1) c.args.m.now.count (spans-more max_bases _ i g (rw (sym c.bond_at.ensures) (c.unite-roots.ensures.spans (table i g) c.loop-i.invariant.1)))
    (omega arith) (omega arith) c.requires.n_le_max_bases.1

pub loop-i-preserved : goal.loop-i-preserved
loop-i-preserved c =
    let g : ℕ → Bond = ends c.args.m.now.lo c.args.m.now.hi in
    let i = c.loop-i.i in
    let e = c.unite-roots.ensures.by_index c.args.n c.requires.n_le_max_bases.0 (rw c.bond_at.ensures (c.requires.n_le_max_bases.1 i (omega arith))) in
    let q = c.loop-i.invariant.0 in
    (omega arith, spans-more max_bases _ i g (rw (sym c.bond_at.ensures) (c.unite-roots.ensures.spans (table i g) c.loop-i.invariant.1)))
