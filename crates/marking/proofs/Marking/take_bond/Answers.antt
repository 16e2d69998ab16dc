-- `marking::Marking::take_bond`: the answers to the goals that the check leaves.
-- a bond that is there, and the call that found its rank
use Rattle.std.proofs.Common.{◌≡◌, true, ◌<◌, sym, ◌∙◌, arith}
use Rattle.net.specs.Net.{has_bond, same_bond, less_bond}
use Rattle.net.proofs.Bonds.{bond-order}
use Rattle.net.proofs.Tables.{length-table}
use Rattle.bonds.specs.Ends.{ends}
use Rattle.marking.specs.Form.{bonds_of}
use Rattle.marking.proofs.Forms.{taken, not_taken}
use Rattle.marking.proofs.Lent.{lo-less, hi-less}
use Rattle.marking.proofs.Shifts.{rank_below}
use Rattle.marking.proofs.Marking.take_bond.Goals as goal
use Rattle.marking.proofs.Marking.take_bond.Goals.{Else-not-stands_at}

present : (c : Else-not-stands_at) → has_bond c.args.b (bonds_of c.args.self.now) ≡ true
present c = sym c.stands_at.ensures ∙ c.if-not-stands_at.false

-- the rank is below the number of bonds
near : (c : Else-not-stands_at) → c.rank-k.result < c.args.self.now.count
near c =
    let m = c.args.self.now in
    let a = rank_below same_bond less_bond bond-order c.args.b (bonds_of m) (present c) in
    let e = c.rank-k.ensures in
    let l = length-table m.count (ends m.lo m.hi) in
    omega arith

pub returns-then-not-stands_at : goal.returns-then-not-stands_at
returns-then-not-stands_at c = not_taken c.args.self.now c.args.b c.requires (sym c.stands_at.ensures ∙ c.if-not-stands_at.true)

pub remove-requires : goal.remove-requires
remove-requires c = (near (goal.at.remove-requires c).Else-not-stands_at, c.requires.room)

pub remove-requires-2 : goal.remove-requires-2
remove-requires-2 c = (near (goal.at.remove-requires-2 c).Else-not-stands_at, c.requires.room)

pub overflow_sub-self : goal.overflow_sub-self
overflow_sub-self c = let h = near (goal.at.overflow_sub-self c).Else-not-stands_at in omega arith

pub returns : goal.returns
returns c =
    let I = c.requires in
    let m = c.args.self.now in
    let h = near (goal.at.returns c).Else-not-stands_at in
    taken m c.args.b I.order c.rank-k.result _ _ (present (goal.at.returns c).Else-not-stands_at) c.rank-k.ensures
    (lo-less m I (omega arith) _ _ c.remove.ensures) (hi-less m I (omega arith) _ _ c.remove-2.ensures)
