-- `sheet_draft::bytes::put_step`: the answers to the goals that the check leaves.
use Rattle.sheet_draft.proofs.Writing.{step-length, step-written, few-moves, few-befores, few-afters}
use native.Mathlib.Omega.{arith}
use borrow.Author.Rules.{rules}
use Rattle.sheet_draft.proofs.bytes.put_step.Goals as goal

pub put_counted-a-requires : goal.put_counted-a-requires
put_counted-a-requires c =
    let h = step-length c.args.acts.now c.args.k in
    (search rules, few-moves c.args.acts.now c.args.k c.requires.1, omega (arith, c.requires.2))

pub put_counted-b-requires : goal.put_counted-b-requires
put_counted-b-requires c =
    let h = step-length c.args.acts.now c.args.k in
    (search rules, few-befores c.args.acts.now c.args.k c.requires.1, omega (arith, c.requires.2, c.put_counted-a.ensures.0))

pub put_counted-requires : goal.put_counted-requires
put_counted-requires c =
    let h = step-length c.args.acts.now c.args.k in
    (search rules, few-afters c.args.acts.now c.args.k c.requires.1, omega (arith, c.requires.2, c.put_counted-a.ensures.0, c.put_counted-b.ensures.0))

pub returns : goal.returns
returns c = step-written c.args.buf.now c.args.at c.args.acts.now c.args.k c.put_counted-a.ensures c.put_counted-b.ensures c.put_counted.ensures
