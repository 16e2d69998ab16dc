-- `sheet_text::first_mistake`: the answers to the goals that the check leaves.
use Rattle.sheet_text.proofs.FirstLine.{line-here, line-last}
use Rattle.sheet_text.proofs.Rest.{rest-begin, rest-refused, rest-last, rest-on, rest_end, few-parts, few-steps}
use borrow.Author.Rules.{rules}
use native.Mathlib.Omega.{arith}
use mathlib.Core.Path.{refl, sym, ◌∙◌}
use Prim.Native.Nat.{ℕ}
use mathlib.Core.List.{List}
use Rattle.sheet_text.proofs.first_mistake.Goals as goal

pub loop-at-init : goal.loop-at-init
loop-at-init c = record { in_text = search rules; few_parts = search rules; few_steps = search rules; few_lines = search rules; rest = rest-begin _ }

pub returns-then-not-admits : goal.returns-then-not-admits
returns-then-not-admits c =
    let s : List ℕ = c.args.text.now in
    let h = c.end_of-to.ensures in
    rest-refused s c.loop-at.at c.loop-at.line c.loop-at.seen.told c.loop-at.seen.parts c.loop-at.seen.steps c.loop-at.invariant.rest _ h _ c.line_at-what.ensures
    (sym c.admits.ensures ∙ c.if-not-admits.true)

pub returns-then-text-to : goal.returns-then-text-to
returns-then-text-to c =
    let s : List ℕ = c.args.text.now in
    let h = c.end_of-to.ensures in
    rest-last s c.loop-at.at c.loop-at.line c.loop-at.seen.told c.loop-at.seen.parts c.loop-at.seen.steps c.loop-at.invariant.rest _ _
    (line-last s c.loop-at.at _ h c.if-text-to.true) c.line_at-what.ensures (sym c.admits.ensures ∙ c.if-not-admits.false)

pub loop-at-preserved : goal.loop-at-preserved
loop-at-preserved c =
    let s : List ℕ = c.args.text.now in
    let h = c.end_of-to.ensures in
    let seen = c.loop-at.seen in
    record {
      in_text = search rules;
      few_parts = rw c.with-seen.ensures (let z = few-parts seen.told seen.parts seen.steps c.line_at-what.result in omega (arith, h.from));
      few_steps = rw c.with-seen.ensures (let z = few-steps seen.told seen.parts seen.steps c.line_at-what.result in omega (arith, h.from));
      few_lines = omega (arith, h.from);
      rest = rw c.with-seen.ensures
          (rest-on s c.loop-at.at c.loop-at.line seen.told seen.parts seen.steps c.loop-at.invariant.rest _ _ _ (line-here s c.loop-at.at _ h c.if-text-to.false) c.line_at-what.ensures (sym c.admits.ensures ∙ c.if-not-admits.false) _ refl);
    }

pub returns : goal.returns
returns c = rest_end c.args.text.now c.loop-at.at c.loop-at.line c.loop-at.seen.told c.loop-at.seen.parts c.loop-at.seen.steps c.loop-at.invariant.rest (omega arith)
