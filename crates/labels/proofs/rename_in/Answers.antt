-- `labels::rename_in`: the answers to the goals that the check leaves.
use Rattle.std.proofs.Common.{ℕ, ◌∙◌, List, get_or, ap, arith, rules}
use Rattle.net.specs.Limits.{max_bases}
use Rattle.labels.specs.Labelled.{renamed}
use Rattle.bonds.proofs.Fill.{fill-turn, fill_end}
use Rattle.bonds.proofs.InPlace.{read-ahead}
use Rattle.labels.proofs.rename_in.Goals as goal

pub loop-x-preserved : goal.loop-x-preserved
loop-x-preserved c =
    let l : List ℕ = c.args.l.now in
    let g : ℕ → ℕ = λ q. renamed c.args.from c.args.to (get_or l q 0) in
    let p = c.loop-x.x-index in
    let old = read-ahead g p p l c.loop-x.l 0 (omega arith) c.loop-x.invariant in
    let v = c.new_label.ensures ∙ ap (renamed c.args.from c.args.to) old in
    fill-turn g p l c.loop-x.l 0 c.new_label.result (omega arith) v c.loop-x.invariant

pub returns : goal.returns
returns c =
    let l : List ℕ = c.args.l.now in
    fill_end (λ q. renamed c.args.from c.args.to (get_or l q 0)) c.loop-x.x-index max_bases l c.loop-x.l (search rules) (omega arith) c.loop-x.invariant
