-- `sheet_print::put_net`: the answers to the goals that the check leaves.
use borrow.Author.Rules.{rules}
use native.Mathlib.Omega.{arith}
use Rattle.text.specs.Ascii.{ascii}
use Rattle.sheet_print.proofs.Answers.{wrote-net}
use Rattle.sheet_print.proofs.Fits.{parts-room, coupled-room, steps-room}
use Rattle.sheet_print.proofs.Lines.{one-length}
use Rattle.sheet_print.proofs.put_net.Goals as goal

pub put_parts-b-requires : goal.put_parts-b-requires
put_parts-b-requires c =
    let s = c.args.sheet.now in
    omega (arith, parts-room s c.requires.0, one-length (ascii "places ") c.place_count.result)

pub put_couplings-c-requires : goal.put_couplings-c-requires
put_couplings-c-requires c =
    let s = c.args.sheet.now in
    omega (arith, coupled-room s c.requires.0, one-length (ascii "places ") c.place_count.result)

pub put_steps-requires : goal.put_steps-requires
put_steps-requires c =
    let s = c.args.sheet.now in
    steps-room s c.requires.0 _ _ (omega (arith, one-length (ascii "places ") c.place_count.result)) (search rules)

pub returns : goal.returns
returns c =
    let s = c.args.sheet.now in
    wrote-net c.args.buf.now s c.place_count.result c.requires.0 c.place_count.ensures c.put_one-a.ensures c.put_parts-b.ensures c.put_couplings-c.ensures c.put_steps.ensures
