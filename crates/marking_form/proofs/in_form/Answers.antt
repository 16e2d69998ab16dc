-- `marking_form::in_form`: the answers to the goals that the check leaves.
use Rattle.std.proofs.Common.{sym, ◌∙◌, rules}
use Rattle.marking.proofs.Forms.{Sized, form-laid}
use Rattle.marking_form.proofs.Zeros.{form-test}
use Rattle.marking_form.proofs.in_form.Goals as goal

pub returns : goal.returns
returns c =
    let m = c.args.m.now in
    let S : Sized m = record { places = search rules; lo = search rules; hi = search rules } in
    let value = form-test c.args.n m _ _ _ c.zero_bytes-low.ensures c.zero_bytes-high.ensures c.zero_bytes-rest.ensures in
    record {
      value = value;
      laid_out = λ e h. form-laid m S c.args.n h (sym value ∙ e);
    }
