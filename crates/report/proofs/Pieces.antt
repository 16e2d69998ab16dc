-- Laws of the line's pieces: how long they are, and that they make the line.
-- Assumes nothing.
use mathlib.Core.Path.{◌≡◌, refl, ◌∙◌, subst}
use Prim.Native.Nat.{ℕ, ◌+◌, ◌≤◌, ◌<◌}
use native.Mathlib.Omega.{arith}
use native.Mathlib.Nat.{zero-add}
use mathlib.Core.Bool.{Bool, true, false}
use mathlib.Core.List.{List, [], ◌∷◌}
use lib.Dec.{eqb, ltb}
use lib.ListN.{length}
use borrow.Author.Tests.{lt-ltb, le-ltb, eq-eqb, ne_eqb, eqb-true, eqb-false}
use Rattle.text.specs.Decimal.{digits, decimal}
use Rattle.text.specs.Writes.{Wrote, Filled}
use Rattle.text.proofs.Writes.{written_none, written-more, written-pair}
use Rattle.text.specs.Ascii.{ascii}
use Rattle.causal.proofs.Tests.{both}
use Rattle.net.specs.Tests.{pick}
use Rattle.net.specs.declared.Key.{Key}
use Rattle.commands.specs.Answers.{word_of, value_of, value_bound}
use Rattle.commands.specs.declared.Answer.{Answer}
use Rattle.commands.specs.declared.Answer.TheVariants.{Fired, Undone, Refused}
use Rattle.report.specs.Lines.{word_text, answer_line, told_line, value_limit, LowValue}
use Rattle.report.proofs.Places.{digits-few, decimal-five}

-- ---- One word at a time

pub word-fired : (w : ℕ) → w ≡ 0 → word_text w ≡ ascii " fired "
unfolding word_text
word-fired w e = rw (eq-eqb w 0 e)

pub word-undone : (w : ℕ) → (w ≡ 0 → ⊥) → w ≡ 1 → word_text w ≡ ascii " undone "
unfolding word_text
word-undone w h e = rw (ne_eqb w 0 h, eq-eqb w 1 e)

pub word-refused : (w : ℕ) → (w ≡ 0 → ⊥) → (w ≡ 1 → ⊥) → word_text w ≡ ascii " refused "
unfolding word_text
word-refused w h k = rw (ne_eqb w 0 h, ne_eqb w 1 k)

-- ---- Lengths

-- a word and a value below its limit need no more than thirteen bytes
abbrev Room : ℕ → ℕ → Type 0
Room w v = (length (word_text w) ≤ 9) × (v < 100000) × (length (word_text w) + length (digits 5 v) ≤ 13)

module _ (w v : ℕ) (h : v < value_limit w) where
  room-refused : (w ≡ 0 → ⊥) → (w ≡ 1 → ⊥) → Room w v
  room-refused p q =
      let e : value_limit w ≡ 1000 = rw (le-ltb w 2 (omega (arith, p, q))) in
      let l : v < 1000 = omega (arith, h, e) in
      rw (word-refused w p q) (omega arith, omega (arith, l), omega (arith, digits-few 2 5 v l))

  room-serial : w < 2 → v < 65536
  room-serial p =
      let e : value_limit w ≡ 65536 = rw (lt-ltb w 2 p) in
      omega (arith, h, e)

  room-undone : (w ≡ 0 → ⊥) → w ≡ 1 → Room w v
  room-undone p q =
      let l : v < 65536 = room-serial (omega arith) in
      rw (word-undone w p q) (omega arith, omega (arith, l), omega (arith, digits-few 4 5 v (omega (arith, l))))

  room-fired : w ≡ 0 → Room w v
  room-fired p =
      let l : v < 65536 = room-serial (omega arith) in
      rw (word-fired w p) (omega arith, omega (arith, l), omega (arith, digits-few 4 5 v (omega (arith, l))))

  room_by : (a b : Bool) → eqb w 0 ≡ a → eqb w 1 ≡ b → Room w v
  room_by true b p q = room-fired (eqb-true w 0 p)
  room_by false true p q = room-undone (eqb-false w 0 p) (eqb-true w 1 q)
  room_by false false p q = room-refused (eqb-false w 0 p) (eqb-false w 1 q)

  pub room : Room w v
  room = room_by (eqb w 0) (eqb w 1) refl refl

-- a number of 16 bits is below its word's limit where a refusal's number is low
pub below-limit : (w v : ℕ) → v < 65536 → LowValue w v → v < value_limit w
below-limit w v h low = go (ltb w 2) refl
  where
    go : (b : Bool) → ltb w 2 ≡ b → v < pick b 65536 1000
    go true e = h
    go false e = low e

-- ---- The whole

-- the four writers, one after the other, leave the line
pub pieces : (b : List ℕ) {b₁ b₂ b₃ b₄ : List ℕ} (at : ℕ) {k₁ k₂ k₃ k₄ : ℕ} (n w v : ℕ) → v < 100000 → Wrote (digits 10 n) at b k₁ b₁ → Wrote (word_text w) k₁ b₁ k₂ b₂ → Wrote (digits 5 v) k₂ b₂ k₃ b₃ → Wrote (10 ∷ []) k₃ b₃ k₄ b₄ → Wrote (answer_line n w v) at b k₄ b₄
unfolding answer_line decimal
pieces b at n w v h w₁ w₂ w₃ w₄ =
    let all = written-more (10 ∷ []) (written-more (digits 5 v) (written-more (word_text w) (written-more (digits 10 n) (written_none b at) w₁) w₂) w₃) w₄ in
    let t : digits 5 v ≡ digits 10 v = decimal-five v h in
    rw (← t) (written-pair all)

-- ---- The answer

-- what is known of an answer's value is what its line asks
pub value_low : (a : Answer) (v : ℕ) → v < value_bound a → LowValue (word_of a) v
value_low Fired v h e = both true refl e
value_low Undone v h e = both true refl e
value_low (Refused n) v h e = omega (arith, h)

-- what was written from byte 0 on for its word and its value is the answer's line
pub told : (b : List ℕ) {b' : List ℕ} {r : ℕ} (n w v : ℕ) (a : Answer) (k : Key) → w ≡ word_of a → v ≡ value_of a k → Wrote (answer_line n w v) 0 b r b' → Filled (told_line n a k) b r b'
told b {b'} {r} n w v a k ew ev all =
    let e : answer_line n w v ≡ told_line n a k = λ i. answer_line n (ew i) (ev i) in
    subst (λ (ws : List ℕ). Filled ws b r b') e (all.0 ∙ zero-add (length (answer_line n w v)), all.1)
