-- `why::reason_by`: the answers to the goals that the check leaves.
-- the reason of a number
use borrow.Author.Rules.{rules}
use mathlib.Core.Path.{ap, sym, ◌∙◌}
use Prim.Native.Nat.{ℕ}
use Rattle.format.specs.NetOf.{net_of}
use Rattle.steps.proofs.Arcs.{count-of}
use Rattle.session.specs.Records.{held_in}
use Rattle.why.specs.Why.{reason_for}
use Rattle.why.specs.declared.Reason.{Reason}
use Rattle.why.proofs.Answers.{turned}
use Rattle.why.proofs.Numbers.{own-last}
use Rattle.why.proofs.reason_by.Goals as goal
use Rattle.why.proofs.reason_by.Goals.{Start}

abbrev by : Start → ℕ → Reason
by s = reason_for (net_of s.args.sheet.now) (held_in s.args.sheet.now s.args.r) s.args.bytes.now

pub why_away-requires : goal.why_away-requires
why_away-requires c = turned c.args.sheet.now c.args.r c.args.bytes.now c.requires.0 c.args.n c.requires.1 12 c.in-13.is

pub why_absent-requires : goal.why_absent-requires
why_absent-requires c = turned c.args.sheet.now c.args.r c.args.bytes.now c.requires.0 c.args.n c.requires.1 13 c.in-14.is

pub why_present-requires : goal.why_present-requires
why_present-requires c = turned c.args.sheet.now c.args.r c.args.bytes.now c.requires.0 c.args.n c.requires.1 14 c.in-15.is

pub why_torn-requires : goal.why_torn-requires
why_torn-requires c = turned c.args.sheet.now c.args.r c.args.bytes.now c.requires.0 c.args.n c.requires.1 15 c.in-16.is

pub why_later-requires : goal.why_later-requires
why_later-requires c = turned c.args.sheet.now c.args.r c.args.bytes.now c.requires.0 c.args.n c.requires.1 19 c.in-20.is

pub returns-in-0 : goal.returns-in-0
unfolding reason_for
returns-in-0 c = ap (by (goal.at.returns-in-0 c).Start) (sym c.in-0.is)

pub returns-in-11 : goal.returns-in-11
unfolding reason_for
returns-in-11 c = ap (by (goal.at.returns-in-11 c).Start) (sym c.in-11.is)

pub returns-in-12 : goal.returns-in-12
unfolding reason_for
returns-in-12 c = ap Reason.Steps (c.transition_count.ensures ∙ sym (count-of c.args.sheet.now)) ∙ ap (by (goal.at.returns-in-12 c).Start) (sym c.in-12.is)

pub returns-in-13 : goal.returns-in-13
unfolding reason_for
returns-in-13 c = c.why_away.ensures ∙ ap (by (goal.at.returns-in-13 c).Start) (sym c.in-13.is)

pub returns-in-14 : goal.returns-in-14
unfolding reason_for
returns-in-14 c = c.why_absent.ensures ∙ ap (by (goal.at.returns-in-14 c).Start) (sym c.in-14.is)

pub returns-in-15 : goal.returns-in-15
unfolding reason_for
returns-in-15 c = c.why_present.ensures ∙ ap (by (goal.at.returns-in-15 c).Start) (sym c.in-15.is)

pub returns-in-16 : goal.returns-in-16
unfolding reason_for
returns-in-16 c = c.why_torn.ensures ∙ ap (by (goal.at.returns-in-16 c).Start) (sym c.in-16.is)

pub returns-in-17 : goal.returns-in-17
unfolding reason_for
returns-in-17 c = ap (by (goal.at.returns-in-17 c).Start) (sym c.in-17.is)

pub returns-in-18 : goal.returns-in-18
unfolding reason_for
returns-in-18 c = ap (by (goal.at.returns-in-18 c).Start) (sym c.in-18.is)

pub returns-in-19 : goal.returns-in-19
unfolding reason_for
returns-in-19 c = c.why_not_live.ensures ∙ ap (by (goal.at.returns-in-19 c).Start) (sym c.in-19.is)

pub returns-in-20 : goal.returns-in-20
unfolding reason_for
returns-in-20 c = c.why_later.ensures ∙ ap (by (goal.at.returns-in-20 c).Start) (sym c.in-20.is)

pub returns-in_default : goal.returns-in_default
unfolding reason_for
returns-in_default c =
    ap (by (goal.at.returns-in_default c).Start)
    (own-last (net_of c.args.sheet.now) (held_in c.args.sheet.now c.args.r) c.args.bytes.now c.args.n c.requires.1
    (search rules) (search rules) (search rules) (search rules) (search rules) (search rules) (search rules) (search rules) (search rules) (search rules) (search rules))
