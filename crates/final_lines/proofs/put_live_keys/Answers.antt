-- `final_lines::put_live_keys`: the answers to the goals that the check leaves.
use native.Mathlib.Omega.{arith}
use mathlib.Core.Path.{sym}
use lib.ListN.{take}
use lib.Seq.{length-take-le}
use Rattle.bonds.proofs.InPlace.{table-take}
use Rattle.final_lines.proofs.Closing.{live-fits}
use Rattle.final_lines.proofs.put_live_keys.Goals as goal

pub slice_bounds-put_live-end : goal.slice_bounds-put_live-end
slice_bounds-put_live-end c =
    let from = c.before in
    sym (length-take-le from.args.n from.args.keys.now from.requires.2)

pub put_live-requires : goal.put_live-requires
put_live-requires c =
    let from = c.before in
    omega (arith, length-take-le from.args.n from.args.keys.now from.requires.2, from.requires.0, from.requires.1)

pub returns : goal.returns
returns c =
    let from = c.before in
    let n = from.args.n in
    let keys = from.args.keys.now in
    let l = length-take-le n keys from.requires.2 in
    let e = table-take n keys 0 from.requires.2 in
    let done = c.put_live.ensures in
    record {
      wrote = rw e done;
      upper_bound = omega (arith, done.0, live-fits (take n keys) (omega (arith, l, from.requires.1)));
    }
