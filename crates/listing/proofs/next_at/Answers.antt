-- `listing::next_at`: the answers to the goals that the check leaves.
use native.Mathlib.Omega.{arith}
use mathlib.Core.Path.{◌≡◌, refl, sym, ◌∙◌, ap}
use mathlib.Core.Bool.{Bool, not, ◌&&◌}
use lib.Dec.{ltb}
use lib.ListN.{get_or}
use Rattle.net.specs.Limits.{max_bases}
use Rattle.net.specs.Tests.{pick}
use Rattle.net.specs.Journal.{common}
use Rattle.words.specs.Sets.{set_of}
use Rattle.listing.proofs.Arrays.{seen_one, seen_more, least_more, next-is, better-low}
use Rattle.listing.proofs.next_at.Goals as goal
use Rattle.listing.proofs.next_at.Goals.{then-free-f, else-free-f}

pub loop-i-init : goal.loop-i-init
loop-i-init c = (omega arith, seen_one c.args.f.now c.requires.0, refl)

pub loop-i-preserved : goal.loop-i-preserved
loop-i-preserved c =
    let f = c.args.f.now in
    let i = c.loop-i.i in
    let best = c.loop-i.best in
    let next = c.if-free-f.best in
    let seen = c.loop-i.seen in
    let (low, s, e) = c.loop-i.invariant in
    let so : Bool = not c.shares-free.result && ltb (get_or f.transitions i 0) (get_or f.transitions best 0) in
    let taken : next ≡ pick so i best =
    elim c.if-free-f.branch [
      | then-free-f w ↦ w.best-is ∙ ap (λ (b : Bool). pick b i best) (sym w.if-free-f.true)
      | else-free-f w ↦ w.best-is ∙ ap (λ (b : Bool). pick b i best) (sym w.if-free-f.false)
    ] in
    let q : next ≡ pick (not (common (set_of max_bases seen) (set_of max_bases (get_or f.moved i 0))) && ltb (get_or f.transitions i 0) (get_or f.transitions best 0)) i best =
    taken ∙ ap (λ (x : Bool). pick (not x && ltb (get_or f.transitions i 0) (get_or f.transitions best 0)) i best) c.shares-free.ensures in (
      better-low so i best next f.live low taken c.loop-i-test.true,
      seen_more f i seen c.union-seen.result c.loop-i-test.true s c.union-seen.ensures,
      least_more f i best seen next (omega arith) c.loop-i-test.true low e s q,
    )

pub returns : goal.returns
returns c =
    let f = c.args.f.now in
    let (low, s, e) = c.loop-i.invariant in
    record {
      upper_bound = omega arith;
      by_index = next-is f c.loop-i.i c.loop-i.best (omega arith) e;
    }
