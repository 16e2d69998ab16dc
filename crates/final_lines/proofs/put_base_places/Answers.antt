-- `final_lines::put_base_places`: the answers to the goals that the check leaves.
use borrow.Author.Rules.{rules}
use native.Mathlib.Omega.{arith}
use mathlib.Core.Path.{sym}
use Prim.Native.Nat.{◌≤◌}
use lib.ListN.{length, take}
use lib.Seq.{length-take-le}
use Rattle.final_lines.proofs.Closing.{places-fit}
use Rattle.final_lines.proofs.put_base_places.Goals as goal

pub slice_bounds-put_places-end : goal.slice_bounds-put_places-end
slice_bounds-put_places-end c =
    let wide = c.widened-wide.result in
    let h : c.args.n ≤ length wide = search rules in
    sym (length-take-le c.args.n wide h)

pub put_places-requires : goal.put_places-requires
put_places-requires c =
    let wide = c.widened-wide.result in
    let h : c.args.n ≤ length wide = search rules in
    omega (arith, length-take-le c.args.n wide h)

pub returns : goal.returns
returns c =
    let wide = c.widened-wide.result in
    let e = c.widened-wide.ensures in
    let done = c.put_places.ensures in
    let h : c.args.n ≤ length wide = search rules in
    let l = length-take-le c.args.n wide h in
    record {
      wrote = rw (← e) done;
      upper_bound = omega (arith, done.0, places-fit (take c.args.n wide) (omega (arith, l)));
    }
