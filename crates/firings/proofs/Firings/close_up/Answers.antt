-- `firings::Firings::close_up`: the answers to the goals that the check leaves.
use borrow.Author.Rules.{rules}
use mathlib.Core.Path.{ap, ◌∙◌}
use mathlib.Core.List.{List}
use Prim.Native.Nat.{◌-◌, ◌≤◌}
use lib.ListN.{length, set}
use Rattle.firings.specs.Lines.{lying}
use Rattle.firings.proofs.Closed.{closed-by}
use Rattle.firings.proofs.Firings.close_up.Goals as goal

pub returns : goal.returns
returns c =
    let f = c.args.self.now in
    let (h, few) = c.requires in
    let t : f.live ≤ length f.transitions = search rules in
    let k : f.live ≤ length f.keys = search rules in
    let m : f.live ≤ length f.moved = search rules in
    let a = ap (λ (l : List _). set l (f.live - 1) 0) c.copy_within.ensures.after ∙ closed-by f.live c.args.i f.transitions h t in
    let b = ap (λ (l : List _). set l (f.live - 1) 0) c.copy_within-2.ensures.after ∙ closed-by f.live c.args.i f.keys h k in
    let d = ap (λ (l : List _). set l (f.live - 1) 0) c.copy_within-3.ensures.after ∙ closed-by f.live c.args.i f.moved h m in
    λ j. lying (f.live - 1) (a j) (b j) (d j)
