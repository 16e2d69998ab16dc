-- `enabling::join_kept`: the answers to the goals that the check leaves.
use mathlib.Core.Path.{◌≡◌, sym, ◌∙◌, ap}
use mathlib.Core.Bool.{Bool, true, false}
use Rattle.net.specs.Tests.{pick}
use Rattle.net.specs.Sorted.{put}
use Rattle.net.specs.Net.{same_bond, less_bond}
use Rattle.net.specs.Firing.{broken_bond}
use Rattle.format.specs.Arcs.{arcs_in}
use Rattle.enabling.proofs.Keeping.{labelled-is}
use Rattle.enabling.proofs.join_kept.Goals as goal

pub returns-then-is_broken : goal.returns-then-is_broken
returns-then-is_broken c =
    let e : broken_bond (arcs_in c.args.step.now) c.args.b ≡ true = sym c.is_broken.ensures ∙ c.if-is_broken.true in
    record {
      fits = c.requires.0;
      labelled = λ bs L. labelled-is _ _ _ _ (sym (ap (λ (x : Bool). pick x bs (put same_bond less_bond c.args.b bs)) e)) L;
    }

pub returns : goal.returns
returns c =
    let e : broken_bond (arcs_in c.args.step.now) c.args.b ≡ false = sym c.is_broken.ensures ∙ c.if-is_broken.false in
    record {
      fits = c.join.ensures.fits;
      labelled = λ bs L. labelled-is _ _ _ _ (sym (ap (λ (x : Bool). pick x bs (put same_bond less_bond c.args.b bs)) e)) (c.join.ensures.labelled bs L);
    }
