-- Lines that differ in how many flags their sets have: the table of last movers, the lamp and the place of a top are the same of both.
-- Assumes nothing.
use mathlib.Core.Path.{◌≡◌, refl, sym, ◌∙◌, ap, ap₂}
use mathlib.Core.Bool.{Bool, true, false, not, ◌&&◌, ◌||◌}
use mathlib.Core.List.{List, [], ◌∷◌}
use Prim.Native.Nat.{ℕ}
use lib.Dec.{eqb}
use lib.ListN.{get_or}
use Rattle.net.specs.Tests.{pick, all, table}
use Rattle.net.specs.Firing.{in_set}
use Rattle.net.specs.Journal.{LiveLine, no_line, same_key, is_live, line_of}
use Rattle.net.specs.declared.Key.{Key}
use Rattle.firings.proofs.Lines.{SameLine, same_line, SameLines, same_at}
use Rattle.movers.specs.Tops.{moved_in, top_of, top_at, TopPlace}
use Rattle.movers.specs.Lamp.{mover_from, last_mover, last_movers, on_top, lamp}

-- ---- one or the other line

pick-alike : {l k m n : LiveLine} (a b : Bool) → a ≡ b → SameLine l k → SameLine m n → SameLine (pick a l m) (pick b k n)
pick-alike a true e h q = rw e h
pick-alike a false e h q = rw e q

-- ---- the table of last movers

mover-alike : (p a : ℕ) (ls ks : List LiveLine) → SameLines ls ks → mover_from p a ls ≡ mover_from p a ks
mover-alike p a [] [] h = refl
mover-alike p a [] (k ∷ ks) h = absurd h
mover-alike p a (l ∷ ls) [] h = absurd h
mover-alike p a (l ∷ ls) (k ∷ ks) h =
    mover-alike p (pick (in_set l.moved p) l.key.0 a) ls ks h.1 ∙ (λ i. mover_from p (pick (h.0.moved p i) (h.0.key i).0 a) ks)

pub last-alike : (p : ℕ) (ls ks : List LiveLine) → SameLines ls ks → last_mover p ls ≡ last_mover p ks
last-alike p ls ks h = mover-alike p 0 ls ks h

pub movers-alike : (N : ℕ) (ls ks : List LiveLine) → SameLines ls ks → last_movers N ls ≡ last_movers N ks
movers-alike N ls ks h = λ i. table N (λ p. last-alike p ls ks h i)

-- ---- the lamp

live_alike : (k : Key) (ls ks : List LiveLine) → SameLines ls ks → is_live k ls ≡ is_live k ks
live_alike k [] [] h = refl
live_alike k [] (y ∷ ks) h = absurd h
live_alike k (x ∷ ls) [] h = absurd h
live_alike k (x ∷ ls) (y ∷ ks) h = ap₂ ◌||◌ (ap (λ (i : Key). same_key i k) h.0.key) (live_alike k ls ks h.1)

line-alike : (k : Key) (ls ks : List LiveLine) → SameLines ls ks → SameLine (line_of k ls) (line_of k ks)
line-alike k [] [] h = same_line no_line
line-alike k [] (y ∷ ks) h = absurd h
line-alike k (x ∷ ls) [] h = absurd h
line-alike k (x ∷ ls) (y ∷ ks) h = pick-alike (same_key x.key k) (same_key y.key k) (ap (λ (i : Key). same_key i k) h.0.key) h.0 (line-alike k ls ks h.1)

top-alike : (N : ℕ) (t : List ℕ) (l k : LiveLine) → SameLine l k → on_top N t l ≡ on_top N t k
top-alike N t l k h = λ i. all (λ (p : ℕ). not (h.moved p i) || eqb (get_or t p 0) (h.key i).0) (table N (λ p. p))

pub lamp-alike : (N : ℕ) (t : List ℕ) (ls ks : List LiveLine) → SameLines ls ks → (k : Key) → lamp N t ls k ≡ lamp N t ks k
lamp-alike N t ls ks h k = ap₂ ◌&&◌ (live_alike k ls ks h) (top-alike N t (line_of k ls) (line_of k ks) (line-alike k ls ks h))

-- ---- the top above the last line that moved a base, by relations that agree on lines alike

pub moved-alike : (p : ℕ) (ls ks : List LiveLine) → SameLines ls ks → moved_in p ls ≡ moved_in p ks
moved-alike p [] [] h = refl
moved-alike p [] (k ∷ ks) h = absurd h
moved-alike p (l ∷ ls) [] h = absurd h
moved-alike p (l ∷ ls) (k ∷ ks) h = ap₂ ◌||◌ (h.0.moved p) (moved-alike p ls ks h.1)

module _ (dep dep' : LiveLine → LiveLine → Bool) (agree : (l k m n : LiveLine) → SameLine l m → SameLine k n → dep l k ≡ dep' m n) where
  up-alike : (l k : LiveLine) (ls ks : List LiveLine) → SameLine l k → SameLines ls ks → SameLine (top_of dep l ls) (top_of dep' k ks)
  up-alike l k [] [] e h = e
  up-alike l k [] (y ∷ ks) e h = absurd h
  up-alike l k (x ∷ ls) [] e h = absurd h
  up-alike l k (x ∷ ls) (y ∷ ks) e h = up-alike (pick (dep l x) x l) (pick (dep' k y) y k) ls ks (pick-alike (dep l x) (dep' k y) (agree l x k y e h.0) h.0 e) h.1

  above-alike : (p : ℕ) (ls ks : List LiveLine) → SameLines ls ks → SameLine (top_at dep p ls) (top_at dep' p ks)
  above-alike p [] [] h = same_line no_line
  above-alike p [] (k ∷ ks) h = absurd h
  above-alike p (l ∷ ls) [] h = absurd h
  above-alike p (l ∷ ls) (k ∷ ks) h = pick-alike (moved_in p ls) (moved_in p ks) (moved-alike p ls ks h.1) (above-alike p ls ks h.1) (up-alike l k ls ks h.0 h.1)

  -- the line at the top's place has the top's key
  pub place-alike : (p i : ℕ) (ls ks : List LiveLine) → SameLines ls ks → TopPlace dep p ls i → moved_in p ks ≡ true → (get_or ks i no_line).key ≡ (top_at dep' p ks).key
  place-alike p i ls ks h T m = sym (same_at ls ks h i).key ∙ ap (λ (l : LiveLine). l.key) (T.top (moved-alike p ls ks h ∙ m)) ∙ (above-alike p ls ks h).key
