-- The search for the next line of the listing.
-- Assumes nothing.
use mathlib.Core.Path.{◌≡◌, sym, ◌∙◌, ap}
use mathlib.Core.Bool.{Bool, true, false, not, ◌&&◌}
use mathlib.Core.List.{List}
use Prim.Native.Nat.{ℕ, zero, suc, ◌+◌, ◌-◌, ◌<◌}
use native.Mathlib.Omega.{arith}
use native.Mathlib.Numerals.{add-one}
use lib.Dec.{ltb}
use lib.ListN.{get_or}
use Rattle.net.specs.Limits.{max_bases}
use Rattle.net.specs.Tests.{pick}
use Rattle.net.specs.Journal.{LiveLine, no_line, common}
use Rattle.words.specs.Sets.{set_of, either}
use Rattle.firings.specs.Lines.{lines_in}
use Rattle.firings.specs.declared.Firings.{Firings}
use Rattle.firings.proofs.Lines.{lines-length, line-at, moved_at}
use Rattle.listing.specs.First.{step_at, seen_to, least_to, next_at}

module _ (f : Firings) where
  abbrev ls : List LiveLine
  ls = lines_in max_bases f

  step-at : (i : ℕ) → i < f.live → step_at ls i ≡ get_or f.transitions i 0
  step-at i h = ap (λ (l : LiveLine). l.transition.0) (line-at max_bases f i h)

  pub seen_one : 0 < f.live → set_of max_bases (get_or f.moved 0 0) ≡ seen_to ls 1
  seen_one h = sym (moved_at max_bases f 0 h)

  pub seen_more : (i w r : ℕ) → i < f.live → set_of max_bases w ≡ seen_to ls i → set_of max_bases r ≡ either (set_of max_bases w) (set_of max_bases (get_or f.moved i 0)) → set_of max_bases r ≡ seen_to ls (i + 1)
  seen_more i w r h e q = q ∙ (λ x. either (e x) (sym (moved_at max_bases f i h) x)) ∙ ap (seen_to ls) (sym (add-one i))

  least-next : (i : ℕ) → 0 < i → least_to ls i ≡ pick (not (common (seen_to ls i) (get_or ls i no_line).moved) && ltb (step_at ls i) (step_at ls (least_to ls (i - 1)))) i (least_to ls (i - 1))
  least-next zero h = absurd (let z : ⊥ = omega arith in z)
  least-next (suc i) h = let e : i ≡ suc i - 1 = omega arith in
      ap (λ (j : ℕ). pick (not (common (seen_to ls (suc i)) (get_or ls (suc i) no_line).moved) && ltb (step_at ls (suc i)) (step_at ls (least_to ls j))) (suc i) (least_to ls j)) e

  pub least_more : (i b w r : ℕ) → 0 < i → i < f.live → b < i → b ≡ least_to ls (i - 1) → set_of max_bases w ≡ seen_to ls i
      → r ≡ pick (not (common (set_of max_bases w) (set_of max_bases (get_or f.moved i 0))) && ltb (get_or f.transitions i 0) (get_or f.transitions b 0)) i b → r ≡ least_to ls (i + 1 - 1)
  least_more i b w r pos h low e s q =
      let k : i + 1 - 1 ≡ i = omega arith in
      q ∙ (λ x. pick (not (common (s x) (sym (moved_at max_bases f i h) x)) && ltb (sym (step-at i h) x) (sym (step-at b (omega arith)) x)) i b)
      ∙ ap (λ (y : ℕ). pick (not (common (seen_to ls i) (get_or ls i no_line).moved) && ltb (step_at ls i) (step_at ls y)) i y) e
      ∙ sym (least-next i pos) ∙ ap (least_to ls) (sym k)

  pub next-is : (i b : ℕ) → i ≡ f.live → b ≡ least_to ls (i - 1) → b ≡ next_at ls
  next-is i b e q = q ∙ ap (λ (y : ℕ). least_to ls (y - 1)) (e ∙ sym (lines-length max_bases f))

pub better-low : (c : Bool) (i b r n : ℕ) → b < i → r ≡ pick c i b → i < n → r < i + 1
better-low true i b r n h e k = omega arith
better-low false i b r n h e k = omega arith
