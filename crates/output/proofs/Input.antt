-- How much of the input is looked at: nothing after so many bytes changes the output.
-- Assumes nothing.
use mathlib.Core.Path.{◌≡◌, refl, sym, ap, ◌∙◌}
use mathlib.Core.Bool.{Bool, true, false}
use mathlib.Core.List.{List, [], ◌∷◌, ◌++◌}
use Prim.Native.Nat.{ℕ, zero, suc, ◌+◌, ◌-◌, ◌*◌, ◌≤◌, ◌<◌}
use native.Mathlib.Omega.{arith}
use lib.ListN.{length, take, drop, get_or, get_or-append}
use lib.Seq.{take-take, get_or-take}
use Rattle.net.specs.Tests.{pick}
use Rattle.net.specs.Checks.{clear, first}
use Rattle.format.specs.Bytes.{word_at}
use Rattle.format.specs.NetOf.{net_of}
use Rattle.sheet.specs.Checks.{sheet_checks}
use Rattle.sound.proofs.Refusing.{sheet-clear, sheet-held}
use Rattle.command_list.specs.Commands.{commands_in}
use Rattle.report.specs.Said.{max_commands}
use Rattle.output.specs.Output.{sheet_in, command_bytes, refused_sheet, session_text, output}
use Rattle.output.specs.Input.{looked_at, max_input, Settled}

-- ---- parts of a list's first elements

-- a part that lies within the first n elements is the same part of the whole
part-within : {A : Type 0} (m k n : ℕ) (l : List A) → k + m ≤ n → take m (drop k (take n l)) ≡ take m (drop k l)
part-within m zero n l h = take-take m n l (omega (arith, h))
part-within m (suc k) zero l h = absurd (omega (arith, h))
part-within m (suc k) (suc n) [] h = refl
part-within m (suc k) (suc n) (x ∷ xs) h = part-within m k n xs (omega (arith, h))

take-front : (p rest : List ℕ) → take (length p) (p ++ rest) ≡ p
take-front [] rest = refl
take-front (x ∷ p) rest = λ i. x ∷ take-front p rest i

-- ---- the length, the sheet and the commands

pub word-within : (n : ℕ) (l : List ℕ) → 1 < n → word_at (take n l) 0 ≡ word_at l 0
word-within n l h =
    let low : get_or (take n l) 0 0 ≡ get_or l 0 0 = get_or-take n l 0 0 (omega (arith, h)) in
    let high : get_or (take n l) 1 0 ≡ get_or l 1 0 = get_or-take n l 1 0 h in
    ap (λ (x : ℕ). x + 256 * get_or (take n l) 1 0) low ∙ ap (λ (x : ℕ). get_or l 0 0 + 256 * x) high

word-front : (p rest : List ℕ) → 1 < length p → word_at (p ++ rest) 0 ≡ word_at p 0
word-front p rest h =
    let low : get_or (p ++ rest) 0 0 ≡ get_or p 0 0 = get_or-append p rest 0 0 (omega (arith, h)) in
    let high : get_or (p ++ rest) 1 0 ≡ get_or p 1 0 = get_or-append p rest 0 1 h in
    ap (λ (x : ℕ). x + 256 * get_or (p ++ rest) 1 0) low ∙ ap (λ (x : ℕ). get_or p 0 0 + 256 * x) high

module _ (n : ℕ) (l : List ℕ) (h : 2 + word_at l 0 ≤ n) where
  word_same : word_at (take n l) 0 ≡ word_at l 0
  word_same = word-within n l (omega (arith, h))

  pub sheet-within : sheet_in (take n l) ≡ sheet_in l
  sheet-within = ap (λ (k : ℕ). take k (drop 2 (take n l))) word_same ∙ part-within (word_at l 0) 2 n l h

  commands-within : 2 + word_at l 0 + 3 * max_commands ≤ n → command_bytes (take n l) ≡ command_bytes l
  commands-within g = ap (λ (k : ℕ). take (3 * max_commands) (drop (2 + k) (take n l))) word_same ∙ part-within (3 * max_commands) (2 + word_at l 0) n l g

  -- how much is looked at is told by the length and the sheet
  pub looked-within : looked_at (take n l) ≡ looked_at l
  unfolding looked_at
  looked-within = λ i. 2 + word_same i + pick (clear (sheet_checks (sheet-within i))) (3 * max_commands) 0

-- ---- the output

-- of the sheet and the commands' bytes
abbrev output_of : List ℕ → List ℕ → List ℕ
output_of s c = pick (clear (sheet_checks s)) (session_text (net_of s) (commands_in c)) (refused_sheet (first (sheet_checks s)))

looked-sheet : (l : List ℕ) → 2 + word_at l 0 ≤ looked_at l
unfolding looked_at
looked-sheet l = omega arith

pub enough : (n : ℕ) (l : List ℕ) → looked_at l ≤ n → output (take n l) ≡ output l
unfolding output looked_at
enough n l h = ap (λ (s : List ℕ). output_of s (command_bytes (take n l))) (sheet-within n l more) ∙ by (clear (sheet_checks (sheet_in l))) refl
  where
    more : 2 + word_at l 0 ≤ n
    more = let a = looked-sheet l in omega arith

    by : (b : Bool) → clear (sheet_checks (sheet_in l)) ≡ b
        → pick (clear (sheet_checks (sheet_in l))) (session_text (net_of (sheet_in l)) (commands_in (command_bytes (take n l)))) (refused_sheet (first (sheet_checks (sheet_in l))))
        ≡ pick (clear (sheet_checks (sheet_in l))) (session_text (net_of (sheet_in l)) (commands_in (command_bytes l))) (refused_sheet (first (sheet_checks (sheet_in l))))
    by true e =
        let all : looked_at l ≡ 2 + word_at l 0 + 3 * max_commands = ap (λ (b : Bool). 2 + word_at l 0 + pick b (3 * max_commands) 0) e in
        ap (output_of (sheet_in l)) (commands-within n l more (omega arith))
    by false e = rw e

-- what has all that is looked at settles the output
pub settled : (p : List ℕ) → looked_at p ≤ length p → Settled p
settled p h rest =
    let two : 2 + word_at p 0 ≤ length p = (let a = looked-sheet p in omega arith) in
    let word : word_at (p ++ rest) 0 ≡ word_at p 0 = word-front p rest (omega arith) in
    let same : looked_at (p ++ rest) ≡ looked_at p = sym (looked-within (length p) (p ++ rest) (omega arith)) ∙ ap looked_at (take-front p rest) in
    sym (enough (length p) (p ++ rest) (omega arith)) ∙ ap output (take-front p rest)

-- the room for the input holds as much
pub looked-most : (l : List ℕ) → word_at l 0 ≤ 65535 → looked_at l ≤ max_input
unfolding looked_at
looked-most l h = by (clear (sheet_checks (sheet_in l)))
  where
    by : (b : Bool) → 2 + word_at l 0 + pick b (3 * max_commands) 0 ≤ max_input
    by true = omega arith
    by false = omega arith

-- ---- lists whose first elements are the same

pub take_less : (f a : ℕ) (xs ys : List ℕ) → f ≤ a → take a xs ≡ take a ys → take f xs ≡ take f ys
take_less f a xs ys h e = sym (take-take f a xs h) ∙ ap (take f) e ∙ take-take f a ys h

word-agrees : (n : ℕ) (xs ys : List ℕ) → 1 < n → take n xs ≡ take n ys → word_at xs 0 ≡ word_at ys 0
word-agrees n xs ys h e = sym (word-within n xs h) ∙ ap (λ (l : List ℕ). word_at l 0) e ∙ word-within n ys h

part-agrees : (m k n : ℕ) (xs ys : List ℕ) → k + m ≤ n → take n xs ≡ take n ys → take m (drop k xs) ≡ take m (drop k ys)
part-agrees m k n xs ys h e = sym (part-within m k n xs h) ∙ ap (λ (l : List ℕ). take m (drop k l)) e ∙ part-within m k n ys h

-- ---- what reading has in hand: a length, a sheet, the commands

reached : (b : Bool) (n w : ℕ) (room : List ℕ) → word_at room 0 ≡ w → clear (sheet_checks (take w (drop 2 room))) ≡ b → n ≡ 2 + w + pick b (3 * max_commands) 0
    → 2 + w ≤ n → n ≡ looked_at (take n room)
unfolding looked_at
reached b n w room word sheet e h =
    let same : clear (sheet_checks (sheet_in room)) ≡ b = ap (λ (k : ℕ). clear (sheet_checks (take k (drop 2 room)))) word ∙ sheet in
    let all : looked_at room ≡ n = (λ i. 2 + word i + pick (same i) (3 * max_commands) 0) ∙ sym e in
    sym (looked-within n room (omega arith) ∙ all)

module _ (w : ℕ) (first_read second-read : List ℕ) (word : w ≡ word_at first_read 0) (kept : take 2 second-read ≡ take 2 first_read) where
  second_word : word_at second-read 0 ≡ w
  second_word = word-agrees 2 second-read first_read (omega arith) kept ∙ sym word

  cut : 2 + w - 2 ≡ w
  cut = omega arith

  -- a refused sheet: its bytes are all that is looked at
  pub read-refused : (n : ℕ) → n ≡ first (sheet_checks (take (2 + w - 2) (drop 2 second-read))) → (n ≡ 0 → ⊥) → 2 + w ≡ looked_at (take (2 + w) second-read)
  read-refused n e h =
      let held : clear (sheet_checks (take w (drop 2 second-read))) ≡ false = ap (λ (k : ℕ). clear (sheet_checks (take k (drop 2 second-read)))) (sym cut) ∙ sheet-held _ n e h in
      reached false (2 + w) w second-read second_word held (omega arith) (omega arith)

  -- an accepted one: the commands follow
  pub read-accepted : (n : ℕ) → n ≡ first (sheet_checks (take (2 + w - 2) (drop 2 second-read))) → n ≡ 0 → (room : List ℕ) → take (2 + w) room ≡ take (2 + w) second-read
      → 2 + w + 3 * max_commands ≡ looked_at (take (2 + w + 3 * max_commands) room)
  read-accepted n e h room same =
      let part : take w (drop 2 room) ≡ take (2 + w - 2) (drop 2 second-read) = part-agrees w 2 (2 + w) room second-read (omega arith) same ∙ ap (λ (k : ℕ). take k (drop 2 second-read)) (sym cut) in
      reached true (2 + w + 3 * max_commands) w room (word-agrees (2 + w) room second-read (omega arith) same ∙ second_word) (ap (λ (s : List ℕ). clear (sheet_checks s)) part ∙ sheet-clear _ n e h) refl (omega arith)
