-- `firings::Firings::keys_climb`: the answers to the goals that the check leaves.
use borrow.Author.Rules.{rules}
use native.Mathlib.Omega.{arith}
use mathlib.Core.Path.{◌≡◌}
use Prim.Native.Nat.{◌≤◌}
use lib.ListN.{length, get_or}
use Rattle.firings.proofs.Loops.{climb-turn, climb-end, front-at, front-in, front-long}
use Rattle.firings.proofs.Firings.keys_climb.Goals as goal

pub loop-k-preserved : goal.loop-k-preserved
loop-k-preserved c =
    let f = c.args.self.now in
    let i = c.loop-k.k-index in
    rw (front-at f.live i f.keys c.loop-k-test.true)
    (climb-turn (λ j. get_or f.keys j 0) f.live i c.loop-k.last _ c.loop-k.ok (front-in f.live i f.keys c.loop-k-test.true) c.loop-k.invariant)

pub returns : goal.returns
returns c =
    let f = c.args.self.now in
    let size : f.live ≤ length f.keys = search rules in
    let e : c.loop-k.k-index ≡ f.live = front-long f.live c.loop-k.k-index f.keys size c.loop-k.auto.k-index-end c.loop-k-test.false in
    climb-end (λ j. get_or f.keys j 0) f.live c.loop-k.k-index c.loop-k.last _ _ (omega arith) c.loop-k.invariant
