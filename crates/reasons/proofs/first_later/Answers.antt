-- `reasons::first_later`: the answers to the goals that the check leaves.
use Rattle.std.proofs.Common.{sym, ◌∙◌, arith}
use Rattle.reasons.proofs.Later.{later-here, later-on, later-none}
use Rattle.reasons.proofs.first_later.Goals as goal

pub returns-then-shares : goal.returns-then-shares
returns-then-shares c =
    later-here c.args.f.now.live c.args.f.now.transitions c.args.f.now.keys c.args.f.now.moved c.args.i c.requires.0 c.loop-j.j (omega arith) c.loop-j.invariant
    (sym c.shares.ensures ∙ c.if-shares.true)

pub loop-j-preserved : goal.loop-j-preserved
loop-j-preserved c =
    later-on c.args.f.now.live c.args.f.now.transitions c.args.f.now.keys c.args.f.now.moved c.args.i c.requires.0 c.loop-j.j (omega arith) c.loop-j.invariant
    (sym c.shares.ensures ∙ c.if-shares.false)

pub returns : goal.returns
returns c = later-none c.args.f.now.live c.args.f.now.transitions c.args.f.now.keys c.args.f.now.moved c.args.i c.requires.0 c.loop-j.j (omega arith) c.loop-j.invariant
