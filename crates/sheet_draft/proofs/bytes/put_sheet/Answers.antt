-- `sheet_draft::bytes::put_sheet`: the answers to the goals that the check leaves.
use Prim.Native.Nat.{◌+◌, ◌*◌}
use Rattle.sheet_draft.proofs.Writing.{all-pairs, sheet-length, sheet-written}
use native.Mathlib.Omega.{arith}
use Rattle.sheet_draft.proofs.bytes.put_sheet.Goals as goal

pub put_pairs-b-requires : goal.put_pairs-b-requires
put_pairs-b-requires c =
    let h = c.requires.0 in
    let l = sheet-length c.args.places c.args.steps c.args.acts.now in
    (omega (arith, h.few_steps), h.few_acts, omega (arith, h.size), omega (arith, h.few_steps, c.requires.1))

pub put_stretches-requires : goal.put_stretches-requires
put_stretches-requires c =
    let h = c.requires.0 in
    let l = sheet-length c.args.places c.args.steps c.args.acts.now in
    let n = all-pairs (4 * (c.args.steps + 2) + 4) (c.args.steps + 2) c.args.acts.now in
    (omega (arith, h.few_steps), h.fit, omega (arith, h.size, c.requires.1, c.put_pairs-b.ensures.0, c.put_word-a.ensures.0))

pub returns : goal.returns
returns c =
    sheet-written c.args.buf.now c.args.places c.args.parts c.args.steps c.args.acts.now c.requires.0.counted
    c.put_word-a.ensures c.put_pairs-b.ensures c.put_stretches.ensures
