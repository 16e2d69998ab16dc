-- `sheet_draft::notes::collect`: the answers to the goals that the check leaves.
use lib.ListN.{length-set}
use Rattle.sheet_draft.proofs.Lines.{sofar-begin, sofar-on, note-small, too_large, collected}
use borrow.Author.Rules.{rules}
use native.Mathlib.Omega.{arith}
use mathlib.Core.Path.{refl}
use Rattle.sheet_draft.proofs.notes.collect.Goals as goal

pub loop-at-init : goal.loop-at-init
loop-at-init c = (search rules, sofar-begin _ _ c.requires)

pub line_at-l-requires : goal.line_at-l-requires
line_at-l-requires c = (c.end_of-to.ensures.from, c.end_of-to.ensures.to)

pub note_of-x-requires : goal.note_of-x-requires
note_of-x-requires c =
    let f = c.loop-at.invariant.1 in
    omega (arith, f.seven, f.upto)

pub overflow_add-size : goal.overflow_add-size
overflow_add-size c =
    let f = c.loop-at.invariant.1 in
    let m = note-small c.line_at-l.result c.loop-at.places c.loop-at.steps c.note_of-x.result c.note_of-x.ensures in
    omega (arith, m.few, f.upto)

pub returns-then-size-gt65535 : goal.returns-then-size-gt65535
returns-then-size-gt65535 c =
    let f = c.loop-at.invariant.1 in
    record { too_large = λ _. (too_large c.args.text.now c.loop-at.at c.loop-at.n c.loop-at.places c.loop-at.steps c.loop-at.size c.loop-at.acts f c.end_of-to.result c.line_at-l.result c.note_of-x.result (omega arith) c.end_of-to.ensures c.line_at-l.ensures c.note_of-x.ensures c.if-size-gt65535.true); collected = search rules }

pub offset_bounds-acts-n : goal.offset_bounds-acts-n
offset_bounds-acts-n c =
    let f = c.loop-at.invariant.1 in
    omega (arith, f.few, f.upto)

pub bounds-acts-n : goal.bounds-acts-n
bounds-acts-n c =
    let f = c.loop-at.invariant.1 in
    omega (arith, f.few, f.upto, f.room)

pub overflow_add-n : goal.overflow_add-n
overflow_add-n c =
    let f = c.loop-at.invariant.1 in
    let m = note-small c.line_at-l.result c.loop-at.places c.loop-at.steps c.note_of-x.result c.note_of-x.ensures in
    omega (arith, m.acts, f.few, f.upto)

pub loop-at-smaller : goal.loop-at-smaller
loop-at-smaller c =
    let f = c.loop-at.invariant.1 in
    omega (arith, c.end_of-to.ensures.from)

pub loop-at-preserved : goal.loop-at-preserved
loop-at-preserved c =
    let f = c.loop-at.invariant.1 in
    (simp length-set c.loop-at.invariant.0, sofar-on c.args.text.now c.loop-at.at c.loop-at.n c.loop-at.places c.loop-at.steps c.loop-at.size c.loop-at.acts f c.end_of-to.result c.line_at-l.result c.note_of-x.result (omega arith) c.end_of-to.ensures c.line_at-l.ensures c.note_of-x.ensures c.if-size-gt65535.false)

pub returns : goal.returns
returns c =
    let f = c.loop-at.invariant.1 in
    record { too_large = search rules; collected = collected c.args.text.now c.loop-at.at c.loop-at.n c.loop-at.places c.loop-at.steps c.loop-at.size c.loop-at.acts f (omega arith) _ refl }
