-- `sheet_again::read_printed`: the answers to the goals that the check leaves.
use native.Mathlib.Omega.{arith}
use mathlib.Core.Path.{sym, ap, ◌∙◌}
use lib.Seq.{length-take-le}
use Rattle.sheet_print.specs.Printing.{end_of}
use Rattle.sheet_again.proofs.Back.{read_again, refused-again}
use Rattle.sheet_again.proofs.read_printed.Goals as goal

pub slice_bounds-read_sheet-end : goal.slice_bounds-read_sheet-end
slice_bounds-read_sheet-end c = omega (arith, c.print_sheet.ensures.result_bound, ap end_of c.in-Text.is)

pub slice_bounds-read_sheet-end-in-Text : goal.slice_bounds-read_sheet-end-in-Text
slice_bounds-read_sheet-end-in-Text c = sym (length-take-le _ _ (omega (arith, c.print_sheet.ensures.result_bound, ap end_of c.in-Text.is)))

pub returns-in-Text : goal.returns-in-Text
returns-in-Text c =
    let told = c.in-Text.is in
    let st = c.before in
    let x = read_again st.args.sheet.now st.args.text.now _ _ st.args.buf.now (λ i. omega (arith, c.shared_slice_known-1.given i))
    (omega (arith, st.requires.0, c.print_sheet.ensures.result_bound, ap end_of told)) (sym told ∙ c.print_sheet.ensures.value) c.print_sheet.ensures.buf_after
    c.read_sheet.ensures.value c.read_sheet.ensures.buf_after in
    record {
      value = x.0;
      text_after = c.print_sheet.ensures.buf_after;
      buf_after = x.1;
    }

pub returns-in-Refused : goal.returns-in-Refused
returns-in-Refused c =
    let x = refused-again c.args.sheet.now _ c.args.buf.now (sym c.in-Refused.is ∙ c.print_sheet.ensures.value) in
    record {
      value = x.0;
      text_after = c.print_sheet.ensures.buf_after;
      buf_after = x.1;
    }
