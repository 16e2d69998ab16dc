-- `page_lines::put_blanks`: the answers to the goals that the check leaves.
use borrow.Author.Rules.{rules}
use native.Mathlib.Omega.{arith}
use mathlib.Core.Path.{◌≡◌, ◌∙◌}
use lib.ListN.{replicate}
use Rattle.text.proofs.Writes.{copied}
use Rattle.page_lines.proofs.Lines.{replicate-blanks, blanks-length}
use Rattle.page_lines.proofs.put_blanks.Goals as goal

pub returns : goal.returns
returns c =
    let b = blanks-length c.args.k in
    let spaces : c.fill.new.self ≡ replicate c.args.k 32 = search rules in
    (omega arith, copied _ _ _ _ _ (spaces ∙ replicate-blanks c.args.k) (omega arith) (omega arith))
