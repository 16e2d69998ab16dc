-- `page_lines::put_right`: the answers to the goals that the check leaves.
use native.Mathlib.Omega.{arith}
use mathlib.Core.Path.{◌≡◌, ap, ◌∙◌}
use Prim.Native.Nat.{ℕ, ◌-◌}
use lib.ListN.{length}
use Rattle.text.specs.Decimal.{digits, decimal}
use Rattle.page_lines.proofs.Lines.{blanks-length, right-length, right-pieces}
use Rattle.page_lines.proofs.put_right.Goals as goal

-- as many digits as are counted, of the same number in a wider type
counted : (n m k : ℕ) → k ≡ length (digits 10 m) → m ≡ n → k ≡ length (decimal n)
unfolding decimal
counted n m k e d = e ∙ ap (λ (x : ℕ). length (digits 10 x)) d

pub overflow_sub-width : goal.overflow_sub-width
overflow_sub-width c = omega (arith, counted c.args.n _ _ c.digit_count-k.ensures.value c.from.ensures, c.requires.1)

pub put_digits-requires : goal.put_digits-requires
put_digits-requires c = omega (arith, blanks-length (c.args.width - c.digit_count-k.result))

pub returns : goal.returns
returns c =
    let k = counted c.args.n _ _ c.digit_count-k.ensures.value c.from.ensures in
    let w = right-pieces c.args.buf.now c.args.at c.args.width c.args.n c.digit_count-k.result k c.put_blanks-a.ensures c.put_digits.ensures in
    let l = right-length c.args.width c.args.n c.requires.1 in
    (w, omega (arith, w.0))
