-- The numbers of a command's checks: below 10 for a sheet, 10 for a record, 11 to 21 for the command itself.
-- Assumes nothing.
use mathlib.Core.Path.{◌≡◌, refl, sym, ◌∙◌, ap}
use mathlib.Core.Bool.{Bool, true, false, not}
use mathlib.Core.List.{List, [], ◌∷◌}
use Prim.Native.Nat.{ℕ, zero, suc, ◌+◌, ◌<◌, ◌≤◌}
use native.Mathlib.Omega.{arith}
use lib.Dec.{eqb, ltb, leb}
use borrow.Author.Tests.{ne_eqb, ltb-true, leb-true}
use Rattle.net.specs.Tests.{pick, all}
use Rattle.net.specs.Checks.{Check, check, clear, first}
use Rattle.net.specs.Net.{Net}
use Rattle.net.specs.Journal.{Journal, refused, kind_of, transition_named, key_named, fire_checks, undo_checks, fire_reply, undo_reply, refuse, checks, act}
use Rattle.net.proofs.Tests.{and_l, and_r}
use Rattle.format.specs.Parts.{transitions_of}
use Rattle.format.specs.NetOf.{net_of}
use Rattle.sheet.specs.Checks.{sheet_checks, checks_from}
use Rattle.sheet.proofs.Order.{clear_first, first-append}
use Rattle.session.specs.Records.{held_in, sound_for}
use Rattle.session.specs.Commands.{command_checks}
use Rattle.session.specs.declared.Record.{Record}
use Rattle.session.proofs.Steps.{first-clear}
use Rattle.sound.proofs.Refusing.{sheet-positive}

-- the first number of checks whose numbers all pass a test passes it, or is 0
first_passes : (p : ℕ → Bool) (cs : List Check) → all (λ (c : Check). p c.number) cs ≡ true → (first cs ≡ 0 → ⊥) → p (first cs) ≡ true
first_passes p [] h z = absurd (z refl)
first_passes p (c ∷ cs) h z = go c.holds z (first_passes p cs (and_r (p c.number) (all (λ (d : Check). p d.number) cs) h))
  where
    go : (b : Bool) → (pick b c.number (first cs) ≡ 0 → ⊥) → ((first cs ≡ 0 → ⊥) → p (first cs) ≡ true) → p (pick b c.number (first cs)) ≡ true
    go true k ih = and_l (p c.number) (all (λ (d : Check). p d.number) cs) h
    go false k ih = ih k

-- ---- a sheet's

from_low : (s : List ℕ) (k n : ℕ) → all (λ (c : Check). ltb c.number 10) (checks_from s k n) ≡ true
from_low s k zero = refl
from_low s k (suc n) = from_low s (k + 1) n

all-low : (s : List ℕ) → all (λ (c : Check). ltb c.number 10) (sheet_checks s) ≡ true
unfolding sheet_checks
all-low s = from_low s 0 (transitions_of s)

pub sheet-low : (s : List ℕ) (n : ℕ) → n ≡ first (sheet_checks s) → (n ≡ 0 → ⊥) → n < 10
sheet-low s n e h = ltb-true n 10 (ap (λ (k : ℕ). ltb k 10) e ∙ first_passes (λ k. ltb k 10) (sheet_checks s) (all-low s) (λ z. h (e ∙ z)))

-- ---- a command's own

-- what is left of 11 to 21 where it is none of 11 to 20
above : (k n : ℕ) → k ≤ n → (n ≡ k → ⊥) → suc k ≤ n
above k n h x = omega arith

level : (k n : ℕ) → k ≤ n → n ≤ k → k ≡ n
level k n a b = omega arith

only-21 : (n : ℕ) → 11 ≤ n → n ≤ 21 → (n ≡ 11 → ⊥) → (n ≡ 12 → ⊥) → (n ≡ 13 → ⊥) → (n ≡ 14 → ⊥) → (n ≡ 15 → ⊥) → (n ≡ 16 → ⊥) → (n ≡ 17 → ⊥) → (n ≡ 18 → ⊥) → (n ≡ 19 → ⊥) → (n ≡ 20 → ⊥) → 21 ≡ n
only-21 n a b x11 x12 x13 x14 x15 x16 x17 x18 x19 x20 = level 21 n (above 20 n (above 19 n (above 18 n (above 17 n (above 16 n (above 15 n (above 14 n (above 13 n (above 12 n (above 11 n a x11) x12) x13) x14) x15) x16) x17) x18) x19) x20) b

module _ (net : Net) (j : Journal) (c : List ℕ) where
  -- by the kind
  every : (p : ℕ → Bool) → all (λ (d : Check). p d.number) (fire_checks net j (transition_named c)) ≡ true → all (λ (d : Check). p d.number) (undo_checks j (key_named j c)) ≡ true
      → p 21 ≡ true → p 11 ≡ true → all (λ (d : Check). p d.number) (checks net j c) ≡ true
  every p f u cut bad = rw (cut, bad) (go (eqb (kind_of c) 1))
    where
      go : (b : Bool) → all (λ (d : Check). p d.number) (pick b (fire_checks net j (transition_named c)) (undo_checks j (key_named j c))) ≡ true
      go true = f
      go false = u

  own-least : (n : ℕ) → n ≡ first (checks net j c) → (n ≡ 0 → ⊥) → 11 ≤ n
  own-least n e h = leb-true 11 n (ap (λ (k : ℕ). leb 11 k) e ∙ first_passes (λ k. leb 11 k) (checks net j c) (every (λ k. leb 11 k) refl refl refl refl) (λ z. h (e ∙ z)))

  own-most : (n : ℕ) → n ≡ first (checks net j c) → (n ≡ 0 → ⊥) → n ≤ 21
  own-most n e h = leb-true n 21 (ap (λ (k : ℕ). leb k 21) e ∙ first_passes (λ k. leb k 21) (checks net j c) (every (λ k. leb k 21) refl refl refl refl) (λ z. h (e ∙ z)))

  -- none of 0 and 11 to 20: it is 21
  pub own-last : (n : ℕ) → n ≡ first (checks net j c) → (n ≡ 0 → ⊥) → (n ≡ 11 → ⊥) → (n ≡ 12 → ⊥) → (n ≡ 13 → ⊥) → (n ≡ 14 → ⊥) → (n ≡ 15 → ⊥) → (n ≡ 16 → ⊥) → (n ≡ 17 → ⊥) → (n ≡ 18 → ⊥) → (n ≡ 19 → ⊥) → (n ≡ 20 → ⊥) → 21 ≡ n
  own-last n e h = only-21 n (own-least n e h) (own-most n e h)

  -- the journal's answer is the refusal of that number
  pub act-refused : (n : ℕ) → n ≡ first (checks net j c) → (n ≡ 0 → ⊥) → (act net j c).answer ≡ refused n
  act-refused n e h =
      let q : clear (checks net j c) ≡ false = clear_first (checks net j c) (every (λ k. ltb 0 k) refl refl refl refl) ∙ ap (λ (k : ℕ). eqb k 0) (sym e) ∙ ne_eqb n 0 h in
      ap (λ (b : Bool). (pick b (pick (eqb (kind_of c) 1) (fire_reply net j (transition_named c)) (undo_reply net j (key_named j c))) (refuse j (first (checks net j c)))).answer) q
      ∙ ap refused (sym e)

-- ---- all of a command's

module _ (s : List ℕ) (r : Record) (c : List ℕ) where
  abbrev own : List Check
  own = checks (net_of s) (held_in s r) c

  -- the sheet's where it is refused
  pub first-sheet : (n : ℕ) → n ≡ first (sheet_checks s) → (n ≡ 0 → ⊥) → first (command_checks s r c) ≡ n
  first-sheet n e h =
      let rest : List Check = check 10 (not (sound_for s r)) ∷ own in
      first-append (sheet_checks s) rest (sheet-positive s)
      ∙ ap (λ (b : Bool). pick b (first rest) (first (sheet_checks s))) (ap (λ (k : ℕ). eqb k 0) (sym e) ∙ ne_eqb n 0 h) ∙ sym e

  module _ (a : clear (sheet_checks s) ≡ true) where
    after-sheet : (b : Bool) → sound_for s r ≡ b → first (command_checks s r c) ≡ pick (not b) 10 (first own)
    after-sheet b h = first-clear (sheet_checks s) (check 10 (not (sound_for s r)) ∷ own) a ∙ ap (λ (x : Bool). pick (not x) 10 (first own)) h

    pub first-record : sound_for s r ≡ false → first (command_checks s r c) ≡ 10
    first-record h = after-sheet false h

    pub first-own : sound_for s r ≡ true → first (command_checks s r c) ≡ first own
    first-own h = after-sheet true h
