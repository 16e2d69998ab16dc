-- Every number of a line that was read is a byte: no form has a greater one.
-- Assumes nothing.
use mathlib.Core.Path.{◌≡◌, refl}
use mathlib.Core.Bool.{Bool, true, ◌&&◌}
use Prim.Native.Nat.{ℕ, zero, suc, ◌≤◌}
use native.Mathlib.Omega.{arith}
use mathlib.Core.List.{List, [], ◌∷◌}
use lib.Dec.{leb}
use lib.ListN.{get_or}
use borrow.Author.Tests.{leb-true, le-leb}
use Rattle.net.specs.Tests.{pick, all}
use Rattle.net.proofs.Tests.{and_l, and_r, and_i, pick-case}
use Rattle.lexing.specs.Tokens.{Token, word, number, line, end, wrong}
use Rattle.lexing.proofs.Items.{never}
use Rattle.forms.specs.Forms.{fits, suits, numbers}
use Rattle.sheet_text.specs.declared.Line.{Line}
use Rattle.sheet_text.specs.declared.Line.TheVariants.{Blank, Places, Part, Coupled, Step, Move, Before, After, Wrong}
use Rattle.sheet_text.specs.Lines.{most, nth, line_tokens, step_line_of, line_of}

abbrev byte : ℕ → Bool
byte n = leb n most

-- every number of a line is a byte; a line with no form has none
abbrev pub of_bytes : Line → Bool
of_bytes Blank = true
of_bytes (Places n) = byte n
of_bytes (Part p x) = byte p && byte x
of_bytes (Coupled p q) = byte p && byte q
of_bytes (Step k) = byte k
of_bytes (Move p i o) = byte p && (byte i && byte o)
of_bytes (Before p q) = byte p && byte q
of_bytes (After p q) = byte p && byte q
of_bytes Wrong = true

-- an item of a form is no greater number
abbrev held : Token → Bool
held (word w) = true
held (number m) = byte m
held line = true
held end = true
held wrong = true

suits-byte : (f : Token) (n : ℕ) → held f ≡ true → suits f (number n) ≡ true → byte n ≡ true
suits-byte (word w) n h e = never e
suits-byte (number m) n h e =
    let a : n ≤ m = leb-true n m e in
    let b : m ≤ most = leb-true m most h in
    le-leb n most (omega arith)
suits-byte line n h e = never e
suits-byte end n h e = never e
suits-byte wrong n h e = never e

numbers-byte : (fs ts : List Token) → all held fs ≡ true → fits fs ts ≡ true → all byte (numbers ts) ≡ true
numbers-byte [] [] h e = refl
numbers-byte [] (t ∷ ts) h e = never e
numbers-byte (f ∷ fs) [] h e = never e
numbers-byte (f ∷ fs) (word w ∷ ts) h e = numbers-byte fs ts (and_r (held f) (all held fs) h) (and_r (suits f (word w)) (fits fs ts) e)
numbers-byte (f ∷ fs) (number n ∷ ts) h e =
    and_i (byte n) (all byte (numbers ts)) (suits-byte f n (and_l (held f) (all held fs) h) (and_l (suits f (number n)) (fits fs ts) e))
    (numbers-byte fs ts (and_r (held f) (all held fs) h) (and_r (suits f (number n)) (fits fs ts) e))
numbers-byte (f ∷ fs) (line ∷ ts) h e = numbers-byte fs ts (and_r (held f) (all held fs) h) (and_r (suits f line) (fits fs ts) e)
numbers-byte (f ∷ fs) (end ∷ ts) h e = numbers-byte fs ts (and_r (held f) (all held fs) h) (and_r (suits f end) (fits fs ts) e)
numbers-byte (f ∷ fs) (wrong ∷ ts) h e = numbers-byte fs ts (and_r (held f) (all held fs) h) (and_r (suits f wrong) (fits fs ts) e)

at_byte : (xs : List ℕ) (i : ℕ) → all byte xs ≡ true → byte (get_or xs i 0) ≡ true
at_byte [] i h = refl
at_byte (x ∷ xs) zero h = and_l (byte x) (all byte xs) h
at_byte (x ∷ xs) (suc i) h = at_byte xs i (and_r (byte x) (all byte xs) h)

module _ (ts : List Token) where
  -- the i-th number of a line that has a form
  nth-byte : (f : Line) → all held (line_tokens f) ≡ true → fits (line_tokens f) ts ≡ true → (i : ℕ) → byte (nth ts i) ≡ true
  nth-byte f h e i = at_byte (numbers ts) i (numbers-byte (line_tokens f) ts h e)

  two_bytes : (f : Line) → all held (line_tokens f) ≡ true → fits (line_tokens f) ts ≡ true → (byte (nth ts 0) && byte (nth ts 1)) ≡ true
  two_bytes f h e = and_i (byte (nth ts 0)) (byte (nth ts 1)) (nth-byte f h e 0) (nth-byte f h e 1)

  -- by the form that is tried, else by the rest
  tried : (f l r : Line) → (fits (line_tokens f) ts ≡ true → of_bytes l ≡ true) → of_bytes r ≡ true → of_bytes (pick (fits (line_tokens f) ts) l r) ≡ true
  tried f l r g h = pick-case (λ (x : Line). of_bytes x ≡ true) (fits (line_tokens f) ts) l r g (λ e. h)

  step-bytes : of_bytes (step_line_of ts) ≡ true
  unfolding step_line_of
  step-bytes =
      tried (Move most most most) (Move (nth ts 0) (nth ts 1) (nth ts 2)) _
      (λ e. and_i (byte (nth ts 0)) (byte (nth ts 1) && byte (nth ts 2)) (nth-byte (Move most most most) refl e 0)
      (and_i (byte (nth ts 1)) (byte (nth ts 2)) (nth-byte (Move most most most) refl e 1) (nth-byte (Move most most most) refl e 2)))
      (tried (Before most most) (Before (nth ts 0) (nth ts 1)) _ (two_bytes (Before most most) refl)
      (tried (After most most) (After (nth ts 0) (nth ts 1)) Wrong (two_bytes (After most most) refl) refl))

  pub line-bytes : of_bytes (line_of ts) ≡ true
  unfolding line_of
  line-bytes =
      tried Blank Blank _ (λ e. refl)
      (tried (Places most) (Places (nth ts 0)) _ (λ e. nth-byte (Places most) refl e 0)
      (tried (Part most most) (Part (nth ts 0) (nth ts 1)) _ (two_bytes (Part most most) refl)
      (tried (Coupled most most) (Coupled (nth ts 0) (nth ts 1)) _ (two_bytes (Coupled most most) refl)
      (tried (Step most) (Step (nth ts 0)) _ (λ e. nth-byte (Step most) refl e 0)
      step-bytes))))
