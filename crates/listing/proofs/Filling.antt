-- The listing goes into its array one step after the other: one turn, and the end.
-- Assumes nothing.
use mathlib.Core.Path.{◌≡◌, refl, sym, ◌∙◌, ap}
use mathlib.Core.List.{List, [], ◌∷◌, ◌++◌, map}
use Prim.Native.Nat.{ℕ, zero, suc, ◌+◌, ◌-◌}
use native.Mathlib.Omega.{arith}
use lib.ListN.{length, get_or, drop, replicate}
use lib.Seq.{get_or-drop, drop-drop}
use Rattle.net.specs.Limits.{max_live}
use Rattle.net.specs.Tests.{table}
use Rattle.net.specs.Journal.{LiveLine, no_line, transition}
use Rattle.net.specs.declared.Transition.{Transition}
use Rattle.net.proofs.Tables.{table-list}
use Rattle.bonds.proofs.Fill.{map-table}
use Rattle.marking.proofs.Padding.{drop-replicate}
use Rattle.firings.specs.Lines.{steps_of}
use Rattle.listing.specs.First.{step_at, next_at, without_at, ordered, listing}
use Rattle.listing.specs.Listing.{listing_of}
use Rattle.net.specs.declared.Verdict.TheVariants.{Accepted}

pub ordered-long : (n : ℕ) (ls : List LiveLine) → length (ordered n ls) ≡ n
ordered-long zero ls = refl
ordered-long (suc n) ls = ap suc (ordered-long n (without_at (next_at ls) ls))

-- what the place n of an order holds, and what comes after it, where the rest of it is the order of ls
module _ (os : List LiveLine) (n k : ℕ) (ls : List LiveLine) (e : drop n os ≡ ordered (suc k) ls) where
  pub here : step_at os n ≡ step_at ls (next_at ls)
  here =
      let q : n ≡ n + 0 = omega arith in
      ap (λ (x : ℕ). step_at os x) q ∙ ap (λ (l : LiveLine). l.transition.0) (sym (get_or-drop n os 0 no_line)) ∙ ap (λ (l : List LiveLine). step_at l 0) e

  pub after : drop (n + 1) os ≡ ordered k (without_at (next_at ls) ls)
  after = sym (drop-drop 1 n os) ∙ ap (drop 1) e

-- the whole array
pub filled : (ls : List LiveLine) (n : ℕ) (a : List Transition) → n ≡ length ls
    → a ≡ table n (λ x. transition (step_at (ordered (length ls) ls) x)) ++ drop n (replicate max_live (transition 0))
    → record { answer = Accepted; count = n; transitions = a } ≡ listing_of (listing ls)
filled ls n a e q =
    let os : List LiveLine = ordered (length ls) ls in
    let ns : List ℕ = listing ls in
    let size : length ns ≡ n = length-map' os ∙ ordered-long (length ls) ls ∙ sym e in
    let all : table n (λ x. transition (step_at os x)) ≡ map transition ns =
    ap (λ (k : ℕ). table k (λ x. transition (step_at os x))) (e ∙ sym (ordered-long (length ls) ls)) ∙ sym (map-table (λ (l : LiveLine). transition l.transition.0) (length os) (λ x. get_or os x no_line))
    ∙ ap (map (λ (l : LiveLine). transition l.transition.0)) (table-list os no_line) ∙ both os in
    let long : length (map transition ns) ≡ n = length-of ns ∙ size in
    λ i. record {
      answer = Accepted;
      count = sym size i;
      transitions = (q ∙ (λ x. all x ++ drop-replicate n max_live (transition 0) x) ∙ ap (λ (k : ℕ). map transition ns ++ replicate (max_live - k) (transition 0)) (sym long)) i;
    }
  where
    length-map' : (os : List LiveLine) → length (steps_of os) ≡ length os
    length-map' [] = refl
    length-map' (o ∷ os) = ap suc (length-map' os)

    length-of : (ns : List ℕ) → length (map transition ns) ≡ length ns
    length-of [] = refl
    length-of (n ∷ ns) = ap suc (length-of ns)

    both : (os : List LiveLine) → map (λ (l : LiveLine). transition l.transition.0) os ≡ map transition (steps_of os)
    both [] = refl
    both (o ∷ os) = λ i. transition o.transition.0 ∷ both os i
