-- `marking::Marking::put_bond`: the answers to the goals that the check leaves.
-- a bond that is not there, and the call that found its rank
use Rattle.std.proofs.Common.{◌≡◌, false, ◌<◌, ◌≤◌, sym, ◌∙◌, arith}
use Rattle.net.specs.Limits.{max_bonds}
use Rattle.net.specs.declared.Bond.{Bond}
use Rattle.net.specs.Net.{has_bond, less_bond}
use Rattle.bonds.specs.Ends.{ends}
use Rattle.bonds.proofs.Fill.{count-table}
use Rattle.marking.specs.Form.{bonds_of}
use Rattle.marking.proofs.Forms.{added, not-added, one_more}
use Rattle.marking.proofs.Lent.{lo-more, hi-more}
use Rattle.marking.proofs.Marking.put_bond.Goals as goal
use Rattle.marking.proofs.Marking.put_bond.Goals.{Else-stands_at}

absent : (c : Else-stands_at) → has_bond c.args.b (bonds_of c.args.self.now) ≡ false
absent c = sym c.stands_at.ensures ∙ c.if-stands_at.false

-- the rank is at most the number of bonds, and there is room for one more
fits : (c : Else-stands_at) → (c.rank-k.result ≤ c.args.self.now.count) × (c.args.self.now.count < max_bonds)
fits c =
    let m = c.args.self.now in
    let a = count-table (λ (x : Bond). less_bond x c.args.b) m.count (ends m.lo m.hi) in
    let e = c.rank-k.ensures in
    let l = one_more m c.args.b c.requires.in_order (absent c) in
    let r = c.requires.count_len_bound in
    (omega arith, omega arith)

pub returns-then-stands_at : goal.returns-then-stands_at
returns-then-stands_at c = not-added c.args.self.now c.args.b c.requires.in_order (sym c.stands_at.ensures ∙ c.if-stands_at.true)

pub insert-requires : goal.insert-requires
insert-requires c = fits (goal.at.insert-requires c).Else-stands_at

pub insert-requires-2 : goal.insert-requires-2
insert-requires-2 c = fits (goal.at.insert-requires-2 c).Else-stands_at

pub returns : goal.returns
returns c =
    let I = c.requires.in_order in
    let m = c.args.self.now in
    added m c.args.b I.order c.rank-k.result _ _ (absent (goal.at.returns c).Else-stands_at) c.rank-k.ensures
    (lo-more m I _ _ c.insert.ensures) (hi-more m I _ _ c.insert-2.ensures)
