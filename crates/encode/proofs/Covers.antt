-- `Covers b i j x`: x stands in b from i to j. Pieces that follow each other compose.
-- Assumes nothing.
use mathlib.Core.Path.{◌≡◌, refl, sym, ap, ◌∙◌}
use Prim.Native.Nat.{ℕ, zero, suc, ◌<◌}
use native.Mathlib.Omega.{arith}
use mathlib.Core.List.{List, [], ◌∷◌, ◌++◌, map, append_assoc, append-nil}
use lib.ListN.{length, get_or, drop}
use lib.Seq.{drop-cons, drop-length}
use Rattle.net.specs.Tests.{table}
use Rattle.text.specs.Joined.{joined}

abbrev pub Covers : List ℕ → ℕ → ℕ → List ℕ → Type 0
Covers b i j x = x ++ drop j b ≡ drop i b

pub covers-then : (b : List ℕ) (i j k : ℕ) (x y : List ℕ) → Covers b i j x → Covers b j k y → Covers b i k (x ++ y)
covers-then b i j k x y p q = append_assoc x y (drop k b) ∙ ap (λ (l : List ℕ). x ++ l) q ∙ p

pub covers-byte : (b : List ℕ) (i : ℕ) → i < length b → Covers b i (suc i) (get_or b i 0 ∷ [])
covers-byte b i h = sym (drop-cons b i 0 h)

-- a table of texts, the i-th from E i to E (i + 1)
pub covers-table : (b : List ℕ) (n : ℕ) (F : ℕ → List ℕ) (E : ℕ → ℕ) → ((i : ℕ) → i < n → Covers b (E i) (E (suc i)) (F i)) → Covers b (E zero) (E n) (joined (table n F))
covers-table b zero F E h = refl
covers-table b (suc n) F E h =
    covers-then b (E zero) (E (suc zero)) (E (suc n)) (F zero) (joined (table n (λ k. F (suc k)))) (h zero (omega arith))
    (covers-table b n (λ k. F (suc k)) (λ k. E (suc k)) (λ i l. h (suc i) (omega arith)))

-- all of it
pub covers-all : (b x : List ℕ) → Covers b zero (length b) x → x ≡ b
covers-all b x h = sym (append-nil x) ∙ ap (λ (l : List ℕ). x ++ l) (sym (drop-length b)) ∙ h

module _ {X Y : Type 0} where
  pub map-table : (f : X → Y) (n : ℕ) (g : ℕ → X) → map f (table n g) ≡ table n (λ k. f (g k))
  map-table f zero g = refl
  map-table f (suc n) g = λ i. f (g zero) ∷ map-table f n (λ k. g (suc k)) i
