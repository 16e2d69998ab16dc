-- Entries, couplings and a step's bytes, read as the format says, have the bytes that were read.
-- Assumes nothing.
use mathlib.Core.Path.{◌≡◌, sym, subst}
use Prim.Native.Nat.{ℕ, suc, ◌+◌, ◌*◌, ◌/◌, ◌%◌, ◌<◌, ◌≤◌}
use native.Mathlib.Omega.{arith}
use mathlib.Core.List.{List, [], ◌∷◌, ◌++◌, map}
use lib.ListN.{length, get_or}
use Rattle.net.specs.Tests.{table}
use Rattle.net.proofs.Tables.{length-table}
use Rattle.text.specs.Joined.{joined}
use Rattle.format.specs.Bytes.{entry_at, bond_at}
use Rattle.format.specs.Arcs.{entry_count, nth_entry, in_at, in_count, nth_in_bond, out_at, out_count, nth_out_bond, arcs_width, arcs_in}
use Rattle.encode.specs.Encoding.{entry_bytes, bond_bytes, all_bonds, arcs_bytes}
use Rattle.encode.proofs.Covers.{Covers, covers-then, covers-byte, covers-table, covers-all, map-table}

pub two : (b : List ℕ) (i j : ℕ) → j ≡ i + 2 → j ≤ length b → Covers b i j (get_or b i 0 ∷ get_or b (i + 1) 0 ∷ [])
two b i j e h =
    let q : j ≡ suc (suc i) = omega arith in
    let p : i + 1 ≡ suc i = omega arith in
    rw (q, p) (covers-then b i (suc i) (suc (suc i)) (get_or b i 0 ∷ []) (get_or b (suc i) 0 ∷ []) (covers-byte b i (omega arith)) (covers-byte b (suc i) (omega arith)))

three : (b : List ℕ) (i j : ℕ) → j ≡ i + 3 → j ≤ length b → Covers b i j (get_or b i 0 ∷ get_or b (i + 1) 0 ∷ get_or b (i + 1 + 1) 0 ∷ [])
three b i j e h =
    let p : i + 1 ≡ suc i = omega arith in
    rw p (covers-then b i (suc i) j (get_or b i 0 ∷ []) (get_or b (suc i) 0 ∷ get_or b (suc i + 1) 0 ∷ []) (covers-byte b i (omega arith)) (two b (suc i) j (omega arith) h))

pub bonds-cover : (b : List ℕ) (at n : ℕ) → at + 2 * n ≤ length b → Covers b at (at + 2 * n) (all_bonds (table n (λ i. bond_at b (at + 2 * i))))
bonds-cover b at n h =
    let z : at + 2 * 0 ≡ at = omega arith in
    rw (map-table bond_bytes n (λ i. bond_at b (at + 2 * i)))
    (subst (λ (k : ℕ). Covers b k (at + 2 * n) (joined (table n (λ i. bond_bytes (bond_at b (at + 2 * i)))))) z
    (covers-table b n (λ i. bond_bytes (bond_at b (at + 2 * i))) (λ i. at + 2 * i) (λ i l. two b (at + 2 * i) (at + 2 * suc i) (omega arith) (omega arith))))

entries-cover : (b : List ℕ) (at n : ℕ) → at + 3 * n ≤ length b → Covers b at (at + 3 * n) (joined (map entry_bytes (table n (λ i. entry_at b (at + 3 * i)))))
entries-cover b at n h =
    let z : at + 3 * 0 ≡ at = omega arith in
    rw (map-table entry_bytes n (λ i. entry_at b (at + 3 * i)))
    (subst (λ (k : ℕ). Covers b k (at + 3 * n) (joined (table n (λ i. entry_bytes (entry_at b (at + 3 * i)))))) z
    (covers-table b n (λ i. entry_bytes (entry_at b (at + 3 * i))) (λ i. at + 3 * i) (λ i l. three b (at + 3 * i) (at + 3 * suc i) (omega arith) (omega arith))))

-- a list after its count
counted : (b : List ℕ) (i j n : ℕ) (x : List ℕ) → i < length b → n ≡ get_or b i 0 → Covers b (i + 1) j x → Covers b i j (n ∷ x)
counted b i j n x l e h =
    let p : i + 1 ≡ suc i = omega arith in
    rw e (covers-then b i (suc i) j (get_or b i 0 ∷ []) x (covers-byte b i l) (rw p at h))

-- the start couplings
pub bonds-back : (b : List ℕ) → length b % 2 ≡ 0 → all_bonds (table (length b / 2) (λ i. bond_at b (2 * i))) ≡ b
bonds-back b e =
    let n : 0 + 2 * (length b / 2) ≡ length b = omega arith in
    let k : (i : ℕ) → 0 + 2 * i ≡ 2 * i = λ i. omega arith in
    covers-all b _ (subst (λ (f : ℕ → ℕ). Covers b 0 (length b) (all_bonds (table (length b / 2) (λ i. bond_at b (f i))))) (λ j. λ i. k i j)
    (subst (λ (m : ℕ). Covers b 0 m (all_bonds (table (length b / 2) (λ i. bond_at b (0 + 2 * i))))) n (bonds-cover b 0 (length b / 2) (omega arith))))

module _ (b : List ℕ) (h : length b ≡ arcs_width b) where
  first : Covers b 0 (in_at b) (length (arcs_in b).entries ∷ joined (map entry_bytes (arcs_in b).entries))
  first = counted b 0 (in_at b) _ (joined (map entry_bytes (arcs_in b).entries)) (omega arith) (length-table (entry_count b) (nth_entry b)) (entries-cover b 1 (entry_count b) (omega arith))

  second : Covers b (in_at b) (out_at b) (length (arcs_in b).in_bonds ∷ all_bonds (arcs_in b).in_bonds)
  second = counted b (in_at b) (out_at b) _ (all_bonds (arcs_in b).in_bonds) (omega arith) (length-table (in_count b) (nth_in_bond b)) (bonds-cover b (in_at b + 1) (in_count b) (omega arith))

  third : Covers b (out_at b) (arcs_width b) (length (arcs_in b).out_bonds ∷ all_bonds (arcs_in b).out_bonds)
  third = counted b (out_at b) (arcs_width b) _ (all_bonds (arcs_in b).out_bonds) (omega arith) (length-table (out_count b) (nth_out_bond b)) (bonds-cover b (out_at b + 1) (out_count b) (omega arith))

  pub arcs-back : arcs_bytes (arcs_in b) ≡ b
  arcs-back = covers-all b (arcs_bytes (arcs_in b)) (subst (λ (k : ℕ). Covers b 0 k (arcs_bytes (arcs_in b))) (sym h)
      (covers-then b 0 (out_at b) (arcs_width b)
      ((length (arcs_in b).entries ∷ joined (map entry_bytes (arcs_in b).entries)) ++ (length (arcs_in b).in_bonds ∷ all_bonds (arcs_in b).in_bonds))
      (length (arcs_in b).out_bonds ∷ all_bonds (arcs_in b).out_bonds)
      (covers-then b 0 (in_at b) (out_at b) (length (arcs_in b).entries ∷ joined (map entry_bytes (arcs_in b).entries)) (length (arcs_in b).in_bonds ∷ all_bonds (arcs_in b).in_bonds) first second)
      third))
