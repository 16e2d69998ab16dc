-- `layout::unfit_layout`: the answers to the goals that the check leaves.
-- what is known after the first i bytes
use native.Mathlib.Omega.{arith}
use mathlib.Core.Path.{◌≡◌, ap, sym, ◌∙◌}
use mathlib.Core.Bool.{Bool, not, ◌||◌, or-false, or_assoc}
use mathlib.Core.List.{List}
use Prim.Native.Nat.{ℕ}
use lib.Dec.{eqb}
use lib.ListN.{length, get_or}
use Rattle.net.specs.Tests.{any, table}
use Rattle.net.proofs.Tables.{any-more, table-list}
use Rattle.layout.specs.Layout.{no_such_place}
use Rattle.layout.proofs.unfit_layout.Invariants.{upto}
use Rattle.layout.proofs.unfit_layout.Goals as goal

pub loop-wanted-init : goal.loop-wanted-init
loop-wanted-init c = sym (or-false _)

pub loop-wanted-preserved : goal.loop-wanted-preserved
loop-wanted-preserved c =
    let w = c.args.layout.now in
    let i = c.loop-wanted.wanted-index in
    let t : ℕ → Bool = no_such_place c.args.places in
    let n : Bool = not (eqb (length w) c.args.bases) in
    (λ k. c.loop-wanted.invariant k || c.no_such_place-unfit.ensures k) ∙ or_assoc n (any t (table i (λ k. get_or w k 0))) (t (get_or w i 0))
    ∙ ap (λ (b : Bool). n || b) (sym (any-more t i (λ k. get_or w k 0)))

pub returns : goal.returns
returns c =
    let w = c.args.layout.now in
    let e : c.loop-wanted.wanted-index ≡ length w = omega arith in
    c.loop-wanted.invariant ∙ ap (upto c.args.bases c.args.places w) e
    ∙ ap (λ (l : List ℕ). not (eqb (length w) c.args.bases) || any (no_such_place c.args.places) l) (table-list w 0)
