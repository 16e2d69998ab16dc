-- `groups::send_some`: the answers to the goals that the check leaves.
use mathlib.Core.Path.{◌≡◌, refl, ◌∙◌}
use mathlib.Core.Bool.{false, ◌&&◌}
use mathlib.Core.List.{List}
use Prim.Native.Nat.{ℕ}
use native.Mathlib.Omega.{arith}
use lib.Dec.{eqb}
use lib.ListN.{get_or}
use borrow.Author.Rules.{rules}
use Rattle.net.specs.Limits.{max_bases}
use Rattle.net.specs.Tests.{pick}
use Rattle.bonds.proofs.Fill.{fill-turn, fill_end}
use Rattle.bonds.proofs.InPlace.{read-ahead}
use Rattle.words.specs.Sets.{set_of}
use Rattle.labels.specs.Labelled.{label_in}
use Rattle.groups.proofs.send_some.Goals as goal

pub loop-p-init : goal.loop-p-init
loop-p-init c = refl

pub loop-p-preserved : goal.loop-p-preserved
loop-p-preserved c =
    let l : List ℕ = c.args.places.now in
    let g : ℕ → ℕ = λ q. pick (get_or (set_of max_bases c.args.moved) q false && eqb c.args.x (label_in c.args.l.now q)) c.args.to (get_or l q 0) in
    let p = c.loop-p.p in
    let old = read-ahead g p p l c.loop-p.places 0 (omega arith) c.loop-p.invariant in
    let v : c.chosen.result ≡ g p = c.chosen.ensures ∙ (λ i. pick (c.has_base.ensures i && eqb c.args.x (label_in c.args.l.now p)) c.args.to (old i)) in
    fill-turn g p l c.loop-p.places 0 c.chosen.result (omega arith) v c.loop-p.invariant

pub returns : goal.returns
returns c =
    let l : List ℕ = c.args.places.now in
    fill_end (λ q. pick (get_or (set_of max_bases c.args.moved) q false && eqb c.args.x (label_in c.args.l.now q)) c.args.to (get_or l q 0))
    c.loop-p.p max_bases l c.loop-p.places (search rules) (omega arith) c.loop-p.invariant
