-- Lists of bytes: what is known of each element of a lent slice is known of the list, and of any part of it.
-- Assumes nothing.
use mathlib.Core.Path.{◌≡◌, refl}
use mathlib.Core.Bool.{true}
use Prim.Native.Nat.{ℕ, zero, suc, ◌<◌, ◌≤◌}
use native.Mathlib.Omega.{arith}
use mathlib.Core.List.{List, [], ◌∷◌}
use lib.Dec.{ltb}
use lib.ListN.{get_or, take, drop}
use borrow.Author.Tests.{lt-ltb, ltb-true}
use Rattle.net.proofs.Tests.{and_l, and_r, and_i}
use Rattle.encode.specs.Encoding.{bytes}

-- for a caller whose slice is a list of bytes: the premise is what the check knows of a `&[u8]`, element by element
pub bytes-known : (l : List ℕ) → ((i : ℕ) → get_or l i 0 < 256) → bytes l ≡ true
bytes-known [] h = refl
bytes-known (x ∷ l) h = and_i (ltb x 256) (bytes l) (lt-ltb x 256 (h zero)) (bytes-known l (λ i. h (suc i)))

pub byte_at : (l : List ℕ) (i : ℕ) → bytes l ≡ true → get_or l i 0 ≤ 255
byte_at [] i h = omega arith
byte_at (x ∷ l) zero h = let k = ltb-true x 256 (and_l (ltb x 256) (bytes l) h) in omega arith
byte_at (x ∷ l) (suc i) h = byte_at l i (and_r (ltb x 256) (bytes l) h)

pub bytes_take : (n : ℕ) (l : List ℕ) → bytes l ≡ true → bytes (take n l) ≡ true
bytes_take zero l h = refl
bytes_take (suc n) [] h = refl
bytes_take (suc n) (x ∷ l) h = and_i (ltb x 256) (bytes (take n l)) (and_l (ltb x 256) (bytes l) h) (bytes_take n l (and_r (ltb x 256) (bytes l) h))

pub bytes_drop : (n : ℕ) (l : List ℕ) → bytes l ≡ true → bytes (drop n l) ≡ true
bytes_drop zero l h = h
bytes_drop (suc n) [] h = refl
bytes_drop (suc n) (x ∷ l) h = bytes_drop n l (and_r (ltb x 256) (bytes l) h)
