-- Laws of the closing lines: how long they are, and that their pieces make them.
-- Assumes nothing.
use mathlib.Core.Path.{◌≡◌, sym, ap}
use Prim.Native.Nat.{ℕ, ◌+◌, ◌*◌, ◌≤◌}
use native.Mathlib.Omega.{arith}
use mathlib.Core.List.{List, [], ◌∷◌, ◌++◌}
use lib.ListN.{length, get_or, length-append}
use Rattle.net.specs.Tests.{table}
use Rattle.net.specs.declared.Bond.{Bond}
use Rattle.bonds.specs.Ends.{ends, bonds_in}
use Rattle.bonds.proofs.Fill.{map-table, table-map}
use Rattle.text.specs.Decimal.{digits, decimal}
use Rattle.text.specs.Joined.{joined}
use Rattle.text.proofs.Digits.{digits-length}
use Rattle.text.specs.Writes.{Wrote}
use Rattle.text.proofs.Writes.{written_none, written-more, written-pair}
use Rattle.text.proofs.Joined.{joined_length}
use Rattle.closing.specs.Closing.{item, items, row, bond_line, bond_lines, item_room, bond_room}

-- ---- One number

pub item-pieces : (b : List ℕ) {b₁ b₂ : List ℕ} (at : ℕ) {k₁ k₂ : ℕ} (n : ℕ) → Wrote (32 ∷ []) at b k₁ b₁ → Wrote (digits 10 n) k₁ b₁ k₂ b₂ → Wrote (item n) at b k₂ b₂
unfolding decimal
item-pieces b at n w₁ w₂ = written-pair (written-more (digits 10 n) (written-more (32 ∷ []) (written_none b at) w₁) w₂)

pub item-length : (n : ℕ) → length (item n) ≤ item_room
unfolding decimal
item-length n = omega (arith, digits-length 10 n)

-- ---- Numbers by position

-- the text of the number at i
abbrev pub item_at : List ℕ → ℕ → List ℕ
item_at ns i = item (get_or ns i 0)

pub items-table : (ns : List ℕ) → joined (table (length ns) (item_at ns)) ≡ items ns
items-table ns = ap joined (table-map item ns 0)

pub items-upto : (ns : List ℕ) (i : ℕ) → length (joined (table i (item_at ns))) ≤ item_room * i
items-upto ns i = joined_length item_room i (item_at ns) (λ k. item-length (get_or ns k 0))

pub items-length : (ns : List ℕ) → length (items ns) ≤ item_room * length ns
items-length ns = let a = items-upto ns (length ns) in let e = ap (λ (t : List ℕ). length t) (items-table ns) in omega arith

-- ---- A line

pub row-pieces : (b : List ℕ) {b₁ b₂ b₃ : List ℕ} (at : ℕ) {k₁ k₂ k₃ : ℕ} (word ns : List ℕ) → Wrote word at b k₁ b₁ → Wrote (items ns) k₁ b₁ k₂ b₂ → Wrote (10 ∷ []) k₂ b₂ k₃ b₃ → Wrote (row word ns) at b k₃ b₃
row-pieces b at word ns w₁ w₂ w₃ = written-pair (written-more (10 ∷ []) (written-more (items ns) (written-more word (written_none b at) w₁) w₂) w₃)

pub row-length : (word ns : List ℕ) → length (row word ns) ≤ length word + item_room * length ns + 1
row-length word ns = let a = length-append word (items ns) in let b = length-append (word ++ items ns) (10 ∷ []) in let d = items-length ns in omega arith

-- ---- Bonds by position

-- the line of the bond at i
abbrev pub bond_at : List ℕ → List ℕ → ℕ → List ℕ
bond_at lo hi i = bond_line (get_or lo i 0) (get_or hi i 0)

pub bonds-table : (lo hi : List ℕ) (n : ℕ) → joined (table n (bond_at lo hi)) ≡ bond_lines (bonds_in lo hi n)
bonds-table lo hi n = ap joined (sym (map-table (λ (b : Bond). bond_line b.lo b.hi) n (ends lo hi)))

pub bond-length : (p q : ℕ) → length (bond_line p q) ≤ bond_room
bond-length p q = row-length (98 ∷ 111 ∷ 110 ∷ 100 ∷ []) (p ∷ q ∷ [])

pub bonds-upto : (lo hi : List ℕ) (i : ℕ) → length (joined (table i (bond_at lo hi))) ≤ bond_room * i
bonds-upto lo hi i = joined_length bond_room i (bond_at lo hi) (λ k. bond-length (get_or lo k 0) (get_or hi k 0))
