-- `sheet_draft::bytes::put_some`: the answers to the goals that the check leaves.
use Rattle.sheet_draft.proofs.Tagged.{bytes-length}
use Rattle.text.proofs.Writes.{written_none, written-pair}
use native.Mathlib.Omega.{arith}
use mathlib.Core.Path.{sym}
use Rattle.sheet_draft.proofs.bytes.put_some.Goals as goal

pub returns-then-w-eq0 : goal.returns-then-w-eq0
returns-then-w-eq0 c = rw c.if-w-eq0.true (written-pair (written_none c.args.buf.now c.args.at))

pub slice_bounds-put_word-end : goal.slice_bounds-put_word-end
slice_bounds-put_word-end c = sym (bytes-length c.args.w c.args.x c.requires.0)

pub put_word-requires : goal.put_word-requires
put_word-requires c = omega (arith, bytes-length c.args.w c.args.x c.requires.0)

pub returns : goal.returns
returns c = c.put_word.ensures
