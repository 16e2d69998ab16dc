-- `listing::list_steps`: the answers to the goals that the check leaves.
use native.Mathlib.Omega.{arith}
use mathlib.Core.Path.{◌≡◌, sym, ◌∙◌, ap}
use mathlib.Core.List.{List, ◌++◌}
use Prim.Native.Nat.{ℕ, suc, ◌-◌, ◌<◌}
use lib.ListN.{length, drop, replicate, length-replicate}
use Rattle.net.specs.Limits.{max_bases, max_live}
use Rattle.net.specs.Tests.{table}
use Rattle.net.specs.Journal.{LiveLine, transition}
use Rattle.bonds.proofs.Fill.{fill-turn}
use Rattle.firings.specs.Lines.{lines_in}
use Rattle.firings.proofs.Lines.{lines-length}
use Rattle.listing.specs.First.{step_at, ordered}
use Rattle.listing.proofs.Filling.{here, after, filled}
use Rattle.listing.proofs.list_steps.Goals as goal

pub loop-n-preserved : goal.loop-n-preserved
loop-n-preserved c =
    let f = c.args.f in
    let g = c.loop-n.f in
    let n = c.loop-n.n in
    let left = f.live - n - 1 in
    let (live, rest, made) = c.loop-n.invariant in
    let ls : List LiveLine = lines_in max_bases g in
    let os : List LiveLine = ordered f.live (lines_in max_bases f) in
    let test = c.loop-n-test.true in
    let one : g.live ≡ suc left = omega arith in
    let e : drop n os ≡ ordered (suc left) ls = rest ∙ ap (λ (x : ℕ). ordered x ls) one in
    let done = c.next_step.ensures in
    let fewer = done.one_less in
    let now : left ≡ c.next_step.new.f.live = omega arith in
    let room : n < length (replicate max_live (transition 0)) = rw (length-replicate max_live (transition 0)) (let few = c.requires in omega arith) in (
      omega arith,
      after os n left ls e ∙ ap (ordered left) (sym done.moved_after) ∙ ap (λ (x : ℕ). ordered x (lines_in max_bases c.next_step.new.f)) now,
      fill-turn (λ (x : ℕ). transition (step_at os x)) n (replicate max_live (transition 0)) c.loop-n.steps (transition 0) c.next_step.result room (done.value ∙ ap transition (sym (here os n left ls e))) made,
    )

pub returns : goal.returns
returns c =
    let f = c.args.f in
    let ls : List LiveLine = lines_in max_bases f in
    let size : length ls ≡ f.live = lines-length max_bases f in
    let e : c.loop-n.n ≡ f.live = omega arith in
    let (live, rest, made) = c.loop-n.invariant in
    filled ls f.live c.loop-n.steps (sym size) (made ∙ (λ i. table (e i) (λ x. transition (step_at (ordered (sym size i) ls) x)) ++ drop (e i) (replicate max_live (transition 0))))
