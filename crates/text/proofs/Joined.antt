-- Laws of texts one after the other: one text more, and a list of texts by position.
-- Assumes nothing.
use mathlib.Core.Path.{◌≡◌, sym, ap, ◌∙◌}
use Prim.Native.Nat.{ℕ, zero, suc, ◌+◌, ◌*◌, ◌≤◌}
use native.Mathlib.Omega.{arith}
use mathlib.Core.List.{List, [], ◌∷◌, ◌++◌, append_assoc, append-nil}
use lib.ListN.{length, length-append}
use Rattle.net.specs.Tests.{table}
use Rattle.net.proofs.Tables.{table_more}
use Rattle.text.specs.Joined.{joined}
use Rattle.text.specs.Writes.{Wrote}
use Rattle.text.proofs.Writes.{Written, written-more}

pub joined_snoc : (ts : List (List ℕ)) (t : List ℕ) → joined (ts ++ (t ∷ [])) ≡ joined ts ++ t
joined_snoc [] t = append-nil t
joined_snoc (u ∷ ts) t = ap (λ (k : List ℕ). u ++ k) (joined_snoc ts t) ∙ sym (append_assoc u (joined ts) t)

-- one text more of a table
pub joined-more : (n : ℕ) (f : ℕ → List ℕ) → joined (table (n + 1) f) ≡ joined (table n f) ++ f n
joined-more n f = ap joined (table_more n f) ∙ joined_snoc (table n f) (f n)

-- a loop that writes the texts of a table, one turn more
pub table-written : {l now : List ℕ} {at k : ℕ} (f : ℕ → List ℕ) (n : ℕ) {k' : ℕ} {now' : List ℕ} → Written l at (joined (table n f)) k now → Wrote (f n) k now k' now' → Written l at (joined (table (n + 1) f)) k' now'
table-written f n w e = rw (joined-more n f) (written-more (f n) w e)

-- texts that are short come to a short text
pub joined_length : (m n : ℕ) (f : ℕ → List ℕ) → ((i : ℕ) → length (f i) ≤ m) → length (joined (table n f)) ≤ m * n
joined_length m zero f h = omega arith
joined_length m (suc n) f h =
    let a = length-append (f zero) (joined (table n (λ k. f (suc k)))) in
    let b = joined_length m n (λ k. f (suc k)) (λ i. h (suc i)) in
    let d = h zero in
    omega arith
