-- `final_lines::put_closing`: the answers to the goals that the check leaves.
use borrow.Author.Rules.{rules}
use native.Mathlib.Omega.{arith}
use mathlib.Core.Path.{◌≡◌}
use lib.ListN.{length}
use Rattle.net.specs.Limits.{max_bonds, max_live}
use Rattle.final_lines.proofs.Closing.{bonds-fit, tally-fits, closing-pieces}
use Rattle.final_lines.proofs.put_closing.Goals as goal

-- with what is known of the record's arrays in hand
pub put_bonds-b-requires : goal.put_bonds-b-requires
put_bonds-b-requires c =
    let m = c.args.r.marking in
    let arrays = c.well_formed.1.1.1.0 in
    let lo : length m.lo ≡ max_bonds = search rules in
    let hi : length m.hi ≡ max_bonds = search rules in
    let few = c.requires.2 in
    (omega (arith, c.put_base_places-a.ensures.upper_bound, c.requires.0), omega (arith, lo, few), omega (arith, hi, few))

pub put_live_keys-c-requires : goal.put_live_keys-c-requires
put_live_keys-c-requires c =
    let r = c.args.r in
    let m = r.marking in
    let keys : length r.firings.keys ≡ max_live = search rules in
    let few = c.requires.3 in
    (omega (arith, c.put_base_places-a.ensures.upper_bound, c.put_bonds-b.ensures.0, bonds-fit m.lo m.hi m.count), few, omega (arith, keys, few))

pub put_tally-requires : goal.put_tally-requires
put_tally-requires c =
    let m = c.args.r.marking in
    omega (arith, c.put_base_places-a.ensures.upper_bound, c.put_bonds-b.ensures.0, c.put_live_keys-c.ensures.upper_bound, bonds-fit m.lo m.hi m.count)

pub returns : goal.returns
returns c =
    let from = c.before in
    let r = from.args.r in
    let t = from.args.t in
    let m = r.marking in
    let whole = closing-pieces from.args.buf.now from.args.at from.args.bases m r.firings r.given t
    c.put_base_places-a.ensures.wrote
    c.put_bonds-b.ensures
    c.put_live_keys-c.ensures.wrote
    c.put_tally.ensures in
    record {
      wrote = whole;
      upper_bound = omega (arith, c.put_base_places-a.ensures.upper_bound, c.put_bonds-b.ensures.0, c.put_live_keys-c.ensures.upper_bound, c.put_tally.ensures.0, bonds-fit m.lo m.hi m.count, from.requires.2, tally-fits t.fired t.undone t.refused);
    }
