-- `closing::put_item`: the answers to the goals that the check leaves.
use Rattle.closing.proofs.Lines.{item-pieces}
use Rattle.closing.proofs.put_item.Goals as goal

pub returns : goal.returns
returns c =
    let number = rw c.from.ensures at c.put_digits.ensures in
    item-pieces c.args.buf.now c.args.at c.args.n c.put_word-a.ensures number
