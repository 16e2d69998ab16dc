-- `listing::next_step`: the answers to the goals that the check leaves.
use mathlib.Core.Path.{sym, ◌∙◌, ap}
use Prim.Native.Nat.{ℕ}
use Rattle.net.specs.Limits.{max_bases}
use Rattle.net.specs.Journal.{LiveLine, transition}
use Rattle.firings.specs.Lines.{lines_in}
use Rattle.firings.specs.declared.Firing.{Firing}
use Rattle.firings.specs.declared.Firings.{Firings}
use Rattle.firings.proofs.Lines.{line-at}
use Rattle.listing.specs.First.{step_at, without_at}
use Rattle.listing.proofs.Closing.{lines-without}
use Rattle.listing.proofs.next_step.Goals as goal

pub returns : goal.returns
returns c =
    let f = c.args.f.now in
    let i = c.next_at-i.result in
    let e = c.next_at-i.ensures.by_index in
    let h = c.next_at-i.ensures.upper_bound in
    let made = c.close_up.ensures in record {
      value = c.transition_of-step.ensures ∙ ap (λ (x : Firing). transition x.transition) c.firing_at.ensures
          ∙ ap (λ (l : LiveLine). transition l.transition.0) (sym (line-at max_bases f i h)) ∙ ap (λ (x : ℕ). transition (step_at (lines_in max_bases f) x)) e;
      moved_after = ap (lines_in max_bases) made ∙ lines-without f i h ∙ ap (λ (x : ℕ). without_at x (lines_in max_bases f)) e;
      one_less = ap (λ (y : Firings). y.live) made;
    }
