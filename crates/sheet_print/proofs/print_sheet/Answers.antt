-- `sheet_print::print_sheet`: the answers to the goals that the check leaves.
use borrow.Author.Rules.{rules}
use mathlib.Core.Path.{sym, ◌∙◌}
use Rattle.sheet_print.proofs.Answers.{printed-text, printed-refused}
use Rattle.sheet_print.proofs.print_sheet.Goals as goal

pub put_net-requires : goal.put_net-requires
put_net-requires c = (sym c.check_sheet.ensures.value ∙ c.in-Accepted.is, search rules)

pub returns-in-Accepted : goal.returns-in-Accepted
returns-in-Accepted c =
    let told = sym c.check_sheet.ensures.value ∙ c.in-Accepted.is in
    let both = printed-text c.args.sheet.now c.args.buf.now _ told c.put_net.ensures in record { value = both.0; buf_after = both.1.0; result_bound = both.1.1 }

pub returns-in-Refused : goal.returns-in-Refused
returns-in-Refused c =
    let told = sym c.check_sheet.ensures.value ∙ c.in-Refused.is in
    let both = printed-refused c.args.sheet.now c.args.buf.now _ told in record { value = both.0; buf_after = both.1.0; result_bound = both.1.1 }
