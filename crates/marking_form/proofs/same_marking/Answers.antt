-- `marking_form::same_marking`: the answers to the goals that the check leaves.
use Rattle.std.proofs.Common.{◌∙◌, take, rules}
use Rattle.marking_form.proofs.Same.{pointwise-same, counts-differ, parts_same}
use Rattle.marking_form.proofs.same_marking.Goals as goal

pub returns-then-a-b : goal.returns-then-a-b
returns-then-a-b c = counts-differ c.args.n c.args.a.now c.args.b.now c.if-a-b.true

pub returns : goal.returns
returns c =
    let a = c.args.a.now in
    let b = c.args.b.now in
    parts_same c.args.n a b c.if-a-b.false (search rules) (search rules) (search rules) (search rules) _ _ _
    (c.eq-all.ensures ∙ pointwise-same (take c.args.n a.places) (take c.args.n b.places))
    (c.eq-low.ensures ∙ pointwise-same (take a.count a.lo) (take a.count b.lo))
    (c.eq-high.ensures ∙ pointwise-same (take a.count a.hi) (take a.count b.hi))
