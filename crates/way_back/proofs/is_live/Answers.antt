-- `way_back::is_live`: the answers to the goals that the check leaves.
use Rattle.std.proofs.Common.{ℕ, ap, sym, ◌∙◌, get_or, arith}
use lib.Dec.{eqb, ltb}
use borrow.Author.Tests.{lt-ltb, le-ltb}
use Rattle.net.proofs.Firsts.{first-among}
use Rattle.firings.proofs.Keys.{live-keys}
use Rattle.way_back.proofs.is_live.Goals as goal

pub returns-in-Some : goal.returns-in-Some
returns-in-Some c =
    let f = c.args.f.now in
    λ n. sym (ap (λ (i : ℕ). ltb i f.live) (sym c.in-Some.ensures.0) ∙ lt-ltb _ _ c.in-Some.ensures.1)
    ∙ first-among (λ x. eqb x c.args.k.0) f.live (λ i. get_or f.keys i 0) ∙ live-keys n f c.args.k

pub returns-in-None : goal.returns-in-None
returns-in-None c =
    let f = c.args.f.now in
    λ n. sym (ap (λ (i : ℕ). ltb i f.live) (sym c.in-None.ensures) ∙ le-ltb _ _ (omega arith))
    ∙ first-among (λ x. eqb x c.args.k.0) f.live (λ i. get_or f.keys i 0) ∙ live-keys n f c.args.k
