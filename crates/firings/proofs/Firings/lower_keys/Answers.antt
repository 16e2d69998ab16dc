-- `firings::Firings::lower_keys`: the answers to the goals that the check leaves.
use native.Mathlib.Omega.{arith}
use mir.Val.{bool_byte}
use mathlib.Core.Path.{sym, ap, ◌∙◌}
use Prim.Native.Nat.{ℕ}
use lib.Dec.{ltb}
use lib.ListN.{get_or}
use Rattle.bonds.proofs.Fill.{count-more}
use Rattle.firings.proofs.Loops.{byte-pick, byte-le, front-at}
use Rattle.firings.proofs.Firings.lower_keys.Goals as goal

pub loop-k-preserved : goal.loop-k-preserved
loop-k-preserved c =
    let f = c.args.self.now in
    let less = ltb (get_or f.keys c.loop-k.k-index 0) c.args.key.0 in
    let one = byte-le less in
    let e = c.from-n.ensures ∙ ap (λ (x : ℕ). bool_byte (ltb x c.args.key.0)) (front-at f.live c.loop-k.k-index f.keys c.loop-k-test.true) in
    (omega arith, rw (c.loop-k.invariant.1, e ∙ byte-pick less) (sym (count-more (λ x. ltb x c.args.key.0) c.loop-k.k-index (λ i. get_or f.keys i 0))))
