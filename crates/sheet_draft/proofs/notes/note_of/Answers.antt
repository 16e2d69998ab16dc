-- `sheet_draft::notes::note_of`: the answers to the goals that the check leaves.
use mathlib.Core.Path.{◌∙◌}
use Rattle.sheet_draft.proofs.notes.note_of.Goals as goal

pub returns-in-Blank : goal.returns-in-Blank
returns-in-Blank c = c.no_act.ensures ∙ rw c.in-Blank.is

pub returns-in-Places : goal.returns-in-Places
returns-in-Places c = c.no_act-in-Places.ensures ∙ rw c.in-Places.is

pub returns-in-Part : goal.returns-in-Part
returns-in-Part c = c.an_act.ensures ∙ rw c.in-Part.is

pub returns-in-Coupled : goal.returns-in-Coupled
returns-in-Coupled c = c.an_act-in-Coupled.ensures ∙ rw c.in-Coupled.is

pub returns-in-Step : goal.returns-in-Step
returns-in-Step c = c.no_act-in-Step.ensures ∙ rw c.in-Step.is

pub returns-in-Move : goal.returns-in-Move
returns-in-Move c = c.an_act-in-Move.ensures ∙ rw c.in-Move.is

pub returns-in-Before : goal.returns-in-Before
returns-in-Before c = c.an_act-in-Before.ensures ∙ rw c.in-Before.is

pub returns-in-After : goal.returns-in-After
returns-in-After c = c.an_act-in-After.ensures ∙ rw c.in-After.is

pub returns-in-Wrong : goal.returns-in-Wrong
returns-in-Wrong c = c.no_act-in-Wrong.ensures ∙ rw c.in-Wrong.is
