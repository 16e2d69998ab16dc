-- `forms::has_form`: the answers to the goals that the check leaves.
use Rattle.std.proofs.Common.{◌≡◌, ◌-◌, ◌+◌, drop, sym, ◌∙◌, arith}
use Rattle.forms.proofs.Rows.{form-over, line-over, not-suited, suited}
use Rattle.forms.proofs.has_form.Goals as goal
use Rattle.forms.proofs.has_form.Goals.{then-done-via-then-done, then-done-via-else-done+then-not-suits}

pub returns-then-closes : goal.returns-then-closes
returns-then-closes c =
    form-over c.args.form.now c.args.text.now (drop c.loop.j c.args.form.now) (drop c.loop.i c.args.text.now) _ _
    c.next-q.ensures c.next-p.ensures (c.args.n - c.loop.counter) (omega arith)
    (sym c.closes.ensures ∙ c.if-closes.true) _ c.closes-done.ensures ∙ c.loop.invariant.rest

pub returns-then-done : goal.returns-then-done
returns-then-done c =
    let f = c.args.form.now in
    let s = c.args.text.now in
    elim c.then-done.branch [
      | then-done-via-then-done w ↦ line-over f s (drop c.loop.j f) (drop c.loop.i s) _ _ c.next-q.ensures c.next-p.ensures (c.args.n - c.loop.counter) (omega arith)
          (sym c.closes.ensures ∙ c.if-closes.false) (sym c.closes-done.ensures ∙ w.if-done.true) ∙ c.loop.invariant.rest
      | then-done-via-else-done+then-not-suits w ↦ not-suited f s (drop c.loop.j f) (drop c.loop.i s) _ _ c.next-q.ensures c.next-p.ensures (c.args.n - c.loop.counter) (omega arith)
          (sym c.closes.ensures ∙ c.if-closes.false) (sym c.closes-done.ensures ∙ w.if-done.false) _ w.suits.ensures w.if-not-suits.true ∙ c.loop.invariant.rest
    ]

pub loop-preserved : goal.loop-preserved
loop-preserved c =
    let f = c.args.form.now in
    let s = c.args.text.now in
    let m = c.args.n - c.loop.counter in
    let e : m - 1 ≡ c.args.n - (c.loop.counter + 1) = omega arith in
    record {
      in_text = c.next-p.ensures.within;
      in_form = c.next-q.ensures.within;
      rest = rw (← e) (suited f s (drop c.loop.j f) (drop c.loop.i s) _ _ c.next-q.ensures c.next-p.ensures m (omega arith)
          (sym c.closes.ensures ∙ c.if-closes.false) (sym c.closes-done.ensures ∙ c.if-done.false) _ c.suits.ensures c.if-not-suits.false ∙ c.loop.invariant.rest);
    }
