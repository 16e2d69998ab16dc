-- `lexing::end_of`: the answers to the goals that the check leaves.
use Rattle.std.proofs.Common.{◌≡◌, ℕ, length, drop, subst, sym, ◌∙◌, arith}
use Rattle.lexing.specs.Tokens.{past}
use Rattle.lexing.specs.Found.{passes}
use Rattle.lexing.proofs.Scans.{past-here, past-on, past_end}
use Rattle.lexing.proofs.end_of.Goals as goal

pub returns-then-not-is_of : goal.returns-then-not-is_of
returns-then-not-is_of c =
    record {
      rest = past-here (passes c.args.class) c.args.text.now c.loop-i.i (omega arith)
          (sym c.is_of.ensures ∙ c.if-not-is_of.true) ∙ c.loop-i.invariant;
      from = omega arith;
      to = omega arith;
    }

pub loop-i-preserved : goal.loop-i-preserved
loop-i-preserved c =
    past-on (passes c.args.class) c.args.text.now c.loop-i.i (omega arith) (sym c.is_of.ensures ∙ c.if-not-is_of.false) ∙ c.loop-i.invariant

pub returns : goal.returns
returns c =
    let s = c.args.text.now in
    let f = passes c.args.class in
    let e : c.loop-i.i ≡ length s = omega arith in
    record {
      rest = subst (λ (n : ℕ). drop n s ≡ past f (drop c.args.at s)) e (past_end f s c.loop-i.i (omega arith) ∙ c.loop-i.invariant);
      from = omega arith;
      to = omega arith;
    }
