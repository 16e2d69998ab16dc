-- `sheet_draft::make`: the answers to the goals that the check leaves.
use borrow.Author.Rules.{rules}
use Rattle.sheet_draft.proofs.Makes.{is-understood, too_long, to_make, made}
use lib.Seq.{length-take-le}
use mathlib.Core.Path.{sym}
use Rattle.sheet_draft.proofs.make.Goals as goal

pub returns-in_default : goal.returns-in_default
returns-in_default c =
    let (net, e) = is-understood c.args.text.now c.requires.0 in
    let both = too_long c.args.text.now net e c.args.buf.now (c.collect.ensures.too_large (search rules)) in record { value = both.0; buf_after = both.1 }

pub slice_bounds-make_sheet-end : goal.slice_bounds-make_sheet-end
slice_bounds-make_sheet-end c = sym (length-take-le c.in-Some.x.acts _ c.in-Some.ensures.collected.room)

pub make_sheet-requires : goal.make_sheet-requires
make_sheet-requires c =
    let (net, e) = is-understood c.args.text.now c.requires.0 in
    (to_make c.args.text.now net e _ _ c.in-Some.ensures.collected, c.requires.1)

pub returns : goal.returns
returns c =
    let (net, e) = is-understood c.args.text.now c.requires.0 in
    let both = made c.args.text.now net e _ _ c.in-Some.ensures.collected _ c.args.buf.now _ c.make_sheet.ensures.value c.make_sheet.ensures.buf_after in record { value = both.0; buf_after = both.1 }
