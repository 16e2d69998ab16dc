-- The listing looks at the transitions and the moved bases alone: not at keys, nor at how many flags the sets have.
-- Assumes nothing.
use mathlib.Core.Path.{◌≡◌, refl, ◌∙◌, ap}
use mathlib.Core.Bool.{Bool, not, ◌&&◌}
use mathlib.Core.List.{List, [], ◌∷◌}
use Prim.Native.Nat.{ℕ, zero, suc, ◌-◌, ◌<◌}
use native.Mathlib.Omega.{arith}
use lib.Dec.{ltb}
use lib.ListN.{length, get_or, drop}
use Rattle.net.specs.Tests.{pick, table}
use Rattle.net.specs.Firing.{in_set}
use Rattle.net.specs.Journal.{LiveLine, no_line, common}
use Rattle.net.specs.declared.Transition.{Transition}
use Rattle.firings.specs.Lines.{steps_of}
use Rattle.firings.proofs.Lines.{Alike, common-alike, either-alike, SameLine}
use Rattle.listing.specs.First.{SerialsApart, step_at, seen_to, least_to, next_at, without_at, ordered, listing}

-- ---- lines of the same transitions, with sets of the same bases

abbrev pub AlikeLine : LiveLine → LiveLine → Type 0
AlikeLine l k = (l.transition ≡ k.transition) × Alike l.moved k.moved

abbrev pub AlikeLines : List LiveLine → List LiveLine → Type 0
AlikeLines [] [] = Unit {0}
AlikeLines [] (k ∷ ks) = ⊥
AlikeLines (l ∷ ls) [] = ⊥
AlikeLines (l ∷ ls) (k ∷ ks) = AlikeLine l k × AlikeLines ls ks

-- by their places
alike-table : (n : ℕ) (f g : ℕ → LiveLine) → ((i : ℕ) → i < n → AlikeLine (f i) (g i)) → AlikeLines (table n f) (table n g)
alike-table zero f g h = tt
alike-table (suc n) f g h = (h 0 (omega arith), alike-table n (λ i. f (suc i)) (λ i. g (suc i)) (λ i u. h (suc i) (omega arith)))

pub apart-alike : (ls ks : List LiveLine) → SerialsApart ls ks → AlikeLines ls ks
apart-alike [] [] h = tt
apart-alike [] (k ∷ ks) h = absurd h
apart-alike (l ∷ ls) [] h = absurd h
apart-alike (l ∷ ls) (k ∷ ks) h = ((h.0, λ p. ap (λ (m : List Bool). in_set m p) h.1), apart-alike ls ks h.2)

alike-length : (ls ks : List LiveLine) → AlikeLines ls ks → length ls ≡ length ks
alike-length [] [] h = refl
alike-length [] (k ∷ ks) h = absurd h
alike-length (l ∷ ls) [] h = absurd h
alike-length (l ∷ ls) (k ∷ ks) h = ap suc (alike-length ls ks h.1)

alike_at : (ls ks : List LiveLine) → AlikeLines ls ks → (i : ℕ) → AlikeLine (get_or ls i no_line) (get_or ks i no_line)
alike_at [] [] h i = (refl, λ p. refl)
alike_at [] (k ∷ ks) h i = absurd h
alike_at (l ∷ ls) [] h i = absurd h
alike_at (l ∷ ls) (k ∷ ks) h zero = h.0
alike_at (l ∷ ls) (k ∷ ks) h (suc i) = alike_at ls ks h.1 i

alike-drop : (ls ks : List LiveLine) → AlikeLines ls ks → (i : ℕ) → AlikeLines (drop i ls) (drop i ks)
alike-drop ls ks h zero = h
alike-drop [] [] h (suc i) = tt
alike-drop [] (k ∷ ks) h (suc i) = absurd h
alike-drop (l ∷ ls) [] h (suc i) = absurd h
alike-drop (l ∷ ls) (k ∷ ks) h (suc i) = alike-drop ls ks h.1 i

alike-without : (ls ks : List LiveLine) → AlikeLines ls ks → (i : ℕ) → AlikeLines (without_at i ls) (without_at i ks)
alike-without ls ks h zero = alike-drop ls ks h 1
alike-without [] [] h (suc i) = tt
alike-without [] (k ∷ ks) h (suc i) = absurd h
alike-without (l ∷ ls) [] h (suc i) = absurd h
alike-without (l ∷ ls) (k ∷ ks) h (suc i) = (h.0, alike-without ls ks h.1 i)

alike-steps : (ls ks : List LiveLine) → AlikeLines ls ks → steps_of ls ≡ steps_of ks
alike-steps [] [] h = refl
alike-steps [] (k ∷ ks) h = absurd h
alike-steps (l ∷ ls) [] h = absurd h
alike-steps (l ∷ ls) (k ∷ ks) h = λ i. (h.0.0 i).0 ∷ alike-steps ls ks h.1 i

-- ---- they are put in one order

module _ (ls ks : List LiveLine) (h : AlikeLines ls ks) where
  step_same : (i : ℕ) → step_at ls i ≡ step_at ks i
  step_same i = ap (λ (t : Transition). t.0) (alike_at ls ks h i).0

  seen_alike : (i : ℕ) → Alike (seen_to ls i) (seen_to ks i)
  seen_alike zero = λ p. refl
  seen_alike (suc i) = either-alike (seen_to ls i) (seen_to ks i) (get_or ls i no_line).moved (get_or ks i no_line).moved (seen_alike i) (alike_at ls ks h i).1

  least-same : (i : ℕ) → least_to ls i ≡ least_to ks i
  least-same zero = refl
  least-same (suc i) =
      let m : common (seen_to ls (suc i)) (get_or ls (suc i) no_line).moved ≡ common (seen_to ks (suc i)) (get_or ks (suc i) no_line).moved =
      common-alike (seen_to ls (suc i)) (seen_to ks (suc i)) (get_or ls (suc i) no_line).moved (get_or ks (suc i) no_line).moved (seen_alike (suc i)) (alike_at ls ks h (suc i)).1 in
      let q : least_to ls i ≡ least_to ks i = least-same i in
      let s : step_at ls (least_to ls i) ≡ step_at ks (least_to ks i) = step_same (least_to ls i) ∙ ap (step_at ks) q in
      λ n. pick (not (m n) && ltb (step_same (suc i) n) (s n)) (suc i) (q n)

  pub next-same : next_at ls ≡ next_at ks
  next-same = least-same (length ls - 1) ∙ ap (λ (n : ℕ). least_to ks (n - 1)) (alike-length ls ks h)

ordered-alike : (n : ℕ) (ls ks : List LiveLine) → AlikeLines ls ks → AlikeLines (ordered n ls) (ordered n ks)
ordered-alike zero ls ks h = tt
ordered-alike (suc n) ls ks h = go (next_at ls) (next_at ks) (next-same ls ks h) (λ a b c. ordered-alike n a b c)
  where
    go : (i k : ℕ) → i ≡ k → ((a b : List LiveLine) → AlikeLines a b → AlikeLines (ordered n a) (ordered n b))
        → AlikeLine (get_or ls i no_line) (get_or ks k no_line) × AlikeLines (ordered n (without_at i ls)) (ordered n (without_at k ks))
    go i k e ih = rw e (alike_at ls ks h k, ih (without_at k ls) (without_at k ks) (alike-without ls ks h k))

pub listing-same : (ls ks : List LiveLine) → AlikeLines ls ks → listing ls ≡ listing ks
listing-same ls ks h =
    alike-steps (ordered (length ls) ls) (ordered (length ls) ks) (ordered-alike (length ls) ls ks h)
    ∙ ap (λ (n : ℕ). steps_of (ordered n ks)) (alike-length ls ks h)

-- Lines of the same transitions at the same places, with sets of the same bases, have one listing.
pub listing-alike : (n : ℕ) (f g : ℕ → LiveLine) → ((i : ℕ) → i < n → SameLine (f i) (g i)) → listing (table n f) ≡ listing (table n g)
listing-alike n f g h = listing-same (table n f) (table n g) (alike-table n f g (λ i u. ((h i u).transition, (h i u).moved)))

-- The listing does not look at serials.
pub listing-apart : (ls ks : List LiveLine) → SerialsApart ls ks → listing ls ≡ listing ks
listing-apart ls ks h = listing-same ls ks (apart-alike ls ks h)
