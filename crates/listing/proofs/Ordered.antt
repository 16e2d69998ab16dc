-- The order of the listing comes from the lines by swapping neighbours that moved no common base.
-- Assumes nothing.
use mathlib.Core.Path.{◌≡◌, refl, sym, ◌∙◌, ap, subst}
use mathlib.Core.Logic.{inl, inr}
use mathlib.Core.List.{List, [], ◌∷◌}
use Prim.Native.Nat.{ℕ, zero, suc, ◌<◌}
use native.Mathlib.Omega.{arith}
use lib.ListN.{length, get_or, take, drop}
use lib.Seq.{split_at}
use Rattle.causal.specs.Lists.{Mem}
use Rattle.causal.specs.Reorderings.{Swapped, stay, under, chain}
use Rattle.causal.proofs.Reorderings.{float, swapped-length}
use Rattle.net.specs.Firing.{in_set}
use Rattle.net.specs.Journal.{LiveLine, no_line}
use Rattle.listing.specs.First.{next_at, without_at, ordered}
use Rattle.listing.proofs.Next.{FreeAt, next-free}

-- ---- a line by its place

pub mem-at : (ls : List LiveLine) (i : ℕ) → i < length ls → Mem (get_or ls i no_line) ls
mem-at [] i h = absurd (let z : ⊥ = omega arith in z)
mem-at (l ∷ ls) zero h = inl refl
mem-at (l ∷ ls) (suc i) h = inr (mem-at ls i (omega arith))

-- the first i lines by their places
pub take_at : (ls : List LiveLine) (i : ℕ) (x : LiveLine) → Mem x (take i ls) → (k : ℕ) × (k < i) × (x ≡ get_or ls k no_line)
take_at ls zero x h = absurd h
take_at [] (suc i) x h = absurd h
take_at (l ∷ ls) (suc i) x (inl e) = (0, omega arith, e)
take_at (l ∷ ls) (suc i) x (inr h) = let (k, u, e) = take_at ls i x h in (suc k, omega arith, e)

-- ---- a line to the front

pub front-swapped : (ls : List LiveLine) (i : ℕ) → i < length ls → FreeAt ls i → Swapped in_set ls (get_or ls i no_line ∷ without_at i ls)
front-swapped ls i h f = subst (λ (x : List LiveLine). Swapped in_set x (get_or ls i no_line ∷ without_at i ls)) (sym (split_at ls i no_line h))
    (float in_set (get_or ls i no_line) (take i ls) (drop (suc i) ls) (λ x m p.
    let (k, u, e) = take_at ls i x m in
    λ q. f k u p (ap (λ (y : LiveLine). in_set y.moved p) (sym e) ∙ q)))

pub next-swapped : (ls : List LiveLine) → 0 < length ls → Swapped in_set ls (get_or ls (next_at ls) no_line ∷ without_at (next_at ls) ls)
next-swapped ls h = let (w, f, _) = next-free ls h in front-swapped ls (next_at ls) w f

pub next-length : (ls : List LiveLine) → 0 < length ls → length ls ≡ suc (length (without_at (next_at ls) ls))
next-length ls h = swapped-length in_set (next-swapped ls h)

-- ---- all lines

ordered-all : (n : ℕ) (ls : List LiveLine) → length ls ≡ n → Swapped in_set ls (ordered n ls)
ordered-all zero [] e = stay
ordered-all zero (l ∷ ls) e = absurd (let z : ⊥ = omega arith in z)
ordered-all (suc n) ls e =
    let w : 0 < length ls = omega arith in
    let size = next-length ls w in
    chain (next-swapped ls w) (under (ordered-all n (without_at (next_at ls) ls) (omega arith)))

pub ordered-swapped : (ls : List LiveLine) → Swapped in_set ls (ordered (length ls) ls)
ordered-swapped ls = ordered-all (length ls) ls refl
