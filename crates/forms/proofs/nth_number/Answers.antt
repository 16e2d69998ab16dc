-- `forms::nth_number`: the answers to the goals that the check leaves.
use Rattle.std.proofs.Common.{◌≡◌, ◌-◌, ◌+◌, drop, ◌∙◌, arith}
use Rattle.forms.proofs.Rows.{skip-number, skip-other}
use Rattle.forms.proofs.nth_number.Goals as goal
use Rattle.forms.proofs.nth_number.Goals.{in-Number-2, in_default}

pub loop-preserved : goal.loop-preserved
loop-preserved c =
    let s = c.args.text.now in
    let r = drop c.loop.i s in
    let m = c.args.n - c.loop.counter in
    let e : m - 1 ≡ c.args.n - (c.loop.counter + 1) = omega arith in
    record {
      in_text = c.next-p.ensures.within;
      rest = rw (← e) (elim c.match-p.branch [
        | in-Number-2 w ↦ skip-number s r _ c.next-p.ensures m _ _ (omega arith) w.in-Number.is w.if-skip-eq0.false _ w.skip-is ∙ c.loop.invariant.rest
        | in_default w ↦ skip-other s r _ c.next-p.ensures m _ (omega arith) (record { no_number = w.in_default.not-Number; no_line = w.in_default.not-Line; no_end = w.in_default.not-End }) _ w.skip-is ∙ c.loop.invariant.rest
      ]);
    }
