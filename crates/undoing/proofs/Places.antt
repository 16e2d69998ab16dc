-- The place of a key among the lines, the line there, and the place of a line by its key.
-- Assumes nothing.
use mathlib.Core.Path.{◌≡◌, refl, ap}
use mathlib.Core.Bool.{Bool, true, false, ◌||◌}
use mathlib.Core.List.{List, [], ◌∷◌, ◌++◌}
use Prim.Native.Nat.{ℕ, zero, suc, ◌<◌, ◌≤◌}
use native.Mathlib.Omega.{arith}
use lib.ListN.{length, get_or}
use borrow.Author.Tests.{eqb-true, eq-eqb, ne_eqb}
use Rattle.net.specs.Tests.{pick}
use Rattle.net.specs.Journal as J
use Rattle.net.specs.Journal.{LiveLine, no_line, line_keys, same_key, is_live}
use Rattle.net.specs.declared.Key.{Key}
use Rattle.net.proofs.Keys.{Up}
use Rattle.firings.specs.Search.{index_of}
use Rattle.firings.proofs.Laid.{mem-at}

-- ---- a key's place

pub place-most : (k : Key) (ls : List LiveLine) → index_of k (line_keys ls) ≤ length ls
place-most k [] = omega arith
place-most k (l ∷ ls) = go (same_key l.key k) (place-most k ls)
  where
    go : (b : Bool) → index_of k (line_keys ls) ≤ length ls → pick b 0 (suc (index_of k (line_keys ls))) ≤ suc (length ls)
    go true h = omega arith
    go false h = omega arith

pub place-dead : (k : Key) (ls : List LiveLine) → index_of k (line_keys ls) ≡ length ls → is_live k ls ≡ false
place-dead k [] e = refl
place-dead k (l ∷ ls) e = go (same_key l.key k) e (place-dead k ls)
  where
    go : (b : Bool) → pick b 0 (suc (index_of k (line_keys ls))) ≡ suc (length ls) → (index_of k (line_keys ls) ≡ length ls → is_live k ls ≡ false) → (b || is_live k ls) ≡ false
    go true h ih = absurd (let z : ⊥ = omega arith in z)
    go false h ih = ih (omega arith)

-- where the key is live, the lines fall into those before its line, its line, and those after
pub record Found (k : Key) (ls : List LiveLine) (i : ℕ) : Type 0 where
  pub before : List LiveLine
  pub after : List LiveLine
  pub split : ls ≡ before ++ J.line_of k ls ∷ after
  pub place : length before ≡ i
  pub key : (J.line_of k ls).key.0 ≡ k.0
  pub live : is_live k ls ≡ true
  pub line : (d : LiveLine) → get_or ls i d ≡ J.line_of k ls

pub place_found : (k : Key) (ls : List LiveLine) → index_of k (line_keys ls) < length ls → Found k ls (index_of k (line_keys ls))
place_found k [] h = absurd (let z : ⊥ = omega arith in z)
place_found k (l ∷ ls) h = go (same_key l.key k) refl h (place_found k ls)
  where
    Is : Bool → ℕ → Type 0
    Is b i =
        (before : List LiveLine) × (after : List LiveLine) × (l ∷ ls ≡ before ++ pick b l (J.line_of k ls) ∷ after) × (length before ≡ i)
        × ((pick b l (J.line_of k ls)).key.0 ≡ k.0) × ((b || is_live k ls) ≡ true) × ((d : LiveLine) → get_or (l ∷ ls) i d ≡ pick b l (J.line_of k ls))

    pack : Is (same_key l.key k) (index_of k (line_keys (l ∷ ls))) → Found k (l ∷ ls) (index_of k (line_keys (l ∷ ls)))
    pack (u, v, e, p, q, a, f) = record { before = u; after = v; split = e; place = p; key = q; live = a; line = f }

    is : (b : Bool) → same_key l.key k ≡ b → pick b 0 (suc (index_of k (line_keys ls))) < suc (length ls)
        → (index_of k (line_keys ls) < length ls → Found k ls (index_of k (line_keys ls))) → Is b (pick b 0 (suc (index_of k (line_keys ls))))
    is true e g ih = ([], ls, refl, refl, eqb-true l.key.0 k.0 e, refl, λ d. refl)
    is false e g ih =
        let F = ih (omega arith) in
        (l ∷ F.before, F.after, (λ i. l ∷ F.split i), ap suc F.place, F.key, F.live, F.line)

    go : (b : Bool) → same_key l.key k ≡ b → index_of k (line_keys (l ∷ ls)) < suc (length ls)
        → (index_of k (line_keys ls) < length ls → Found k ls (index_of k (line_keys ls))) → Found k (l ∷ ls) (index_of k (line_keys (l ∷ ls)))
    go b e g ih = pack (is (same_key l.key k) refl g ih)

-- ---- a line's place: where the keys ascend, it is that of its key

line-place : (ls : List LiveLine) → Up ls → (i : ℕ) → i < length ls → index_of (get_or ls i no_line).key (line_keys ls) ≡ i
line-place [] u i h = absurd (let z : ⊥ = omega arith in z)
line-place (l ∷ ls) u zero h = rw (eq-eqb l.key.0 l.key.0 refl)
line-place (l ∷ ls) u (suc i) h =
    let later : l.key.0 < (get_or ls i no_line).key.0 = u.0 (get_or ls i no_line) (mem-at ls no_line i (omega arith)) in
    let other : l.key.0 ≡ (get_or ls i no_line).key.0 → ⊥ = λ e. omega arith in
    rw (ne_eqb l.key.0 (get_or ls i no_line).key.0 other) (ap suc (line-place ls u.1 i (omega arith)))

pub line-found : (ls : List LiveLine) → Up ls → (i : ℕ) → i < length ls → Found (get_or ls i no_line).key ls i
line-found ls u i h =
    let e = line-place ls u i h in
    rw e at (place_found (get_or ls i no_line).key ls (rw e h))
