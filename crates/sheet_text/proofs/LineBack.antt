-- A line's words and numbers, read, are the line.
-- Assumes nothing.
use mathlib.Core.Path.{◌≡◌, refl}
use mathlib.Core.Bool.{Bool, true, false, ◌&&◌}
use Prim.Native.Nat.{ℕ, ◌≤◌}
use native.Mathlib.Omega.{arith}
use mathlib.Core.List.{List, [], ◌∷◌, ◌++◌, map}
use lib.Dec.{leb, ltb}
use borrow.Author.Tests.{leb-true, lt-ltb}
use Rattle.net.specs.Tests.{all}
use Rattle.net.proofs.Tests.{and_l, and_r, and_i}
use Rattle.lexing.specs.Tokens.{too_much}
use Rattle.lexing.proofs.Items.{never}
use Rattle.lexing.specs.Printed.{plain, plain_line, plain_lines}
use Rattle.sheet_text.specs.Reading.{max_items}
use lib.ListN.{length}
use Rattle.sheet_text.specs.declared.Line.{Line}
use Rattle.sheet_text.specs.declared.Line.TheVariants.{Blank, Places, Part, Coupled, Step, Move, Before, After, Wrong}
use Rattle.sheet_text.specs.Lines.{most, line_of, step_line_of, line_tokens}

-- every number of a line is a byte
abbrev pub small : Line → Bool
small Blank = true
small (Places n) = leb n most
small (Part p x) = leb p most && leb x most
small (Coupled p q) = leb p most && leb q most
small (Step k) = leb k most
small (Move p i o) = leb p most && (leb i most && leb o most)
small (Before p q) = leb p most && leb q most
small (After p q) = leb p most && leb q most
small Wrong = false

pub line-back : (l : Line) → small l ≡ true → line_of (line_tokens l) ≡ l
unfolding line_of step_line_of
line-back Blank h = refl
line-back (Places n) h = rw h
line-back (Part p x) h = rw (and_l (leb p most) (leb x most) h, and_r (leb p most) (leb x most) h)
line-back (Coupled p q) h = rw (and_l (leb p most) (leb q most) h, and_r (leb p most) (leb q most) h)
line-back (Step k) h = rw h
line-back (Move p i o) h =
    let t : (leb i most && leb o most) ≡ true = and_r (leb p most) (leb i most && leb o most) h in
    rw (and_l (leb p most) (leb i most && leb o most) h, and_l (leb i most) (leb o most) t, and_r (leb i most) (leb o most) t)
line-back (Before p q) h = rw (and_l (leb p most) (leb q most) h, and_r (leb p most) (leb q most) h)
line-back (After p q) h = rw (and_l (leb p most) (leb q most) h, and_r (leb p most) (leb q most) h)
line-back Wrong h = never h

two_bytes : (n : ℕ) → leb n most ≡ true → ltb n too_much ≡ true
two_bytes n h = let k : n ≤ most = leb-true n most h in lt-ltb n too_much (omega arith)

both : (p q : ℕ) → (leb p most && leb q most) ≡ true → (ltb p too_much ≡ true) × (ltb q too_much ≡ true)
both p q h = (two_bytes p (and_l (leb p most) (leb q most) h), two_bytes q (and_r (leb p most) (leb q most) h))

pub line_plain : (l : Line) → small l ≡ true → all plain (line_tokens l) ≡ true
line_plain Blank h = refl
line_plain (Places n) h = rw (two_bytes n h)
line_plain (Part p x) h = rw ((both p x h).0, (both p x h).1)
line_plain (Coupled p q) h = rw ((both p q h).0, (both p q h).1)
line_plain (Step k) h = rw (two_bytes k h)
line_plain (Move p i o) h =
    let t : (leb i most && leb o most) ≡ true = and_r (leb p most) (leb i most && leb o most) h in
    rw (two_bytes p (and_l (leb p most) (leb i most && leb o most) h), (both i o t).0, (both i o t).1)
line_plain (Before p q) h = rw ((both p q h).0, (both p q h).1)
line_plain (After p q) h = rw ((both p q h).0, (both p q h).1)
line_plain Wrong h = never h

-- all lines of a text, and the empty one behind them
blank-back : line_of [] ≡ Blank
unfolding line_of
blank-back = refl

pub lines-back : (ls : List Line) → all small ls ≡ true → map line_of (map line_tokens ls ++ ([] ∷ [])) ≡ ls ++ (Blank ∷ [])
lines-back [] h = λ i. blank-back i ∷ []
lines-back (l ∷ ls) h = λ i. line-back l (and_l (small l) (all small ls) h) i ∷ lines-back ls (and_r (small l) (all small ls) h) i

few : (l : Line) → leb (length (line_tokens l)) max_items ≡ true
few Blank = refl
few (Places n) = refl
few (Part p x) = refl
few (Coupled p q) = refl
few (Step k) = refl
few (Move p i o) = refl
few (Before p q) = refl
few (After p q) = refl
few Wrong = refl

pub lines-plain : (ls : List Line) → all small ls ≡ true → plain_lines max_items (map line_tokens ls) ≡ true
lines-plain [] h = refl
lines-plain (l ∷ ls) h =
    and_i (plain_line max_items (line_tokens l)) (plain_lines max_items (map line_tokens ls))
    (and_i (leb (length (line_tokens l)) max_items) (all plain (line_tokens l)) (few l) (line_plain l (and_l (small l) (all small ls) h)))
    (lines-plain ls (and_r (small l) (all small ls) h))
