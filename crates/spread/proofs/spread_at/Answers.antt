-- `spread::spread_at`: the answers to the goals that the check leaves.
use borrow.Author.Rules.{rules}
use native.Mathlib.Omega.{arith}
use mathlib.Core.Path.{◌≡◌, ap, ◌∙◌}
use mathlib.Core.Bool.{Bool}
use mathlib.Core.List.{List}
use Prim.Native.Nat.{ℕ, ◌+◌, ◌-◌, ◌≤◌}
use lib.ListN.{length, get_or, drop}
use Rattle.net.specs.Limits.{max_bases}
use Rattle.net.specs.Tests.{pick}
use Rattle.net.specs.Journal.{common}
use Rattle.words.specs.Sets.{set_of, either}
use Rattle.firings.specs.Lines.{lines_in}
use Rattle.spread.specs.Depends.{spread}
use Rattle.spread.proofs.Places.{from_one, from_more, from_end, part-at, part-long}
use Rattle.spread.proofs.spread_at.Goals as goal

pub loop-moved-init : goal.loop-moved-init
loop-moved-init c =
    let f = c.args.f.now in
    let i = c.args.i in
    let m : List Bool = set_of max_bases (get_or f.moved i 0) in
    let e : i + 1 + 0 ≡ i + 1 = omega arith in
    ap (λ (j : ℕ). spread m (drop j (lines_in max_bases f))) e ∙ from_one f i c.requires.0

pub loop-moved-preserved : goal.loop-moved-preserved
loop-moved-preserved c =
    let f = c.args.f.now in
    let k = c.args.i + 1 in
    let n = f.live - (c.args.i + 1) in
    let x = c.loop-moved.moved-index in
    let m : List Bool = set_of max_bases c.loop-moved.set in
    let full : k + n ≤ length f.moved = search rules in
    let long = part-long k n f.moved full in
    let test = c.loop-moved-test.true in
    let read = part-at k n x f.moved (omega arith) in
    let next : k + (x + 1) ≡ k + x + 1 = omega arith in
    let r : List Bool = set_of max_bases c.wider-set.result in
    ap (λ (j : ℕ). spread r (drop j (lines_in max_bases f))) next
    ∙ from_more f (k + x) (omega arith) m r _ c.loop-moved.invariant (c.wider-set.ensures ∙ ap (λ (w : ℕ). pick (common m (set_of max_bases w)) (either m (set_of max_bases w)) m) read)

pub returns : goal.returns
returns c =
    let f = c.args.f.now in
    let k = c.args.i + 1 in
    let n = f.live - (c.args.i + 1) in
    let full : k + n ≤ length f.moved = search rules in
    let long = part-long k n f.moved full in
    let test = c.loop-moved-test.false in
    from_end f (k + c.loop-moved.moved-index) (omega arith) _ _ c.loop-moved.invariant
