-- `session::Record::hand_in`: the answers to the goals that the check leaves.
-- the two tests, and the function's start
use lib.ListN.{length}
use Rattle.session.proofs.Blocks.{room, turned-away, not-turned, block-ran}
use Rattle.session.proofs.Record.hand_in.Goals as goal

pub returns-then-turned-ne0 : goal.returns-then-turned-ne0
returns-then-turned-ne0 c =
    turned-away c.args.sheet.now c.args.self c.args.t c.args.block.now c.args.words.now c.args.values.now _ c.refusal_on-refusal.ensures.value c.refusal_on-refusal.ensures.sound _ c.block_refusal-turned.ensures
    c.if-turned-ne0.true _ c.not_run.ensures

pub run-ran-requires : goal.run-ran-requires
run-ran-requires c =
    let p = not-turned c.args.sheet.now c.args.self c.args.t c.args.block.now c.args.words.now c.args.values.now _ c.refusal_on-refusal.ensures.value c.refusal_on-refusal.ensures.sound _ c.block_refusal-turned.ensures c.if-turned-ne0.false in
    let q = room c.args.block.now (length c.args.words.now) (length c.args.values.now) p.1 in
    (p.0, q.0, q.1)

pub returns : goal.returns
returns c =
    let p = not-turned c.args.sheet.now c.args.self c.args.t c.args.block.now c.args.words.now c.args.values.now _ c.refusal_on-refusal.ensures.value c.refusal_on-refusal.ensures.sound _ c.block_refusal-turned.ensures c.if-turned-ne0.false in
    block-ran c.args.sheet.now c.args.self c.args.t c.args.block.now c.args.words.now c.args.values.now p.0 p.1 _ _ _ _ _ c.how_many.ensures c.run-ran.ensures
