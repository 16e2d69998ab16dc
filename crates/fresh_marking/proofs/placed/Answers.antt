-- `fresh_marking::placed`: the answers to the goals that the check leaves.
use mathlib.Core.Path.{◌≡◌}
use mathlib.Core.List.{List, ◌++◌}
use Prim.Native.Nat.{ℕ, ◌-◌}
use lib.ListN.{length, replicate}
use Rattle.marking.proofs.Padding.{drop-replicate}
use Rattle.marking.specs.Form.{padded}
use Rattle.fresh_marking.proofs.placed.Goals as goal

copied-padded : (n : ℕ) (s now rest : List ℕ) → now ≡ s → rest ≡ replicate (n - length s) 0 → now ++ rest ≡ padded n s
copied-padded n s now rest e q = rw (e, q)

pub returns : goal.returns
returns c = copied-padded _ c.args.s.now _ _ c.copy_from_slice.ensures.after (drop-replicate _ _ _)
