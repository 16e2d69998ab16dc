-- Laws of the lines of a page: spaces, how many digits a number has, a number in its columns, and that pieces make a line.
-- Assumes nothing.
use mathlib.Core.Path.{◌≡◌, refl, sym, ap, subst, ◌∙◌}
use Prim.Native.Nat.{ℕ, zero, suc, ◌+◌, ◌-◌, ◌/◌, ◌%◌, ◌<◌, ◌≤◌}
use native.Mathlib.Omega.{arith}
use native.Mathlib.Nat.{add-zero, zero-add}
use mathlib.Core.Bool.{Bool}
use mathlib.Core.List.{List, [], ◌∷◌, ◌++◌}
use lib.ListN.{length, get_or, replicate, length-append}
use lib.Dec.{ltb}
use borrow.Author.Tests.{lt-ltb, le-ltb, ltb-true, ltb-false}
use Rattle.causal.proofs.Tests.{test}
use Rattle.net.specs.Tests.{pick, table}
use Rattle.net.proofs.Tables.{length-table, get_d-table}
use Rattle.text.specs.Decimal.{digits, decimal}
use Rattle.text.specs.Writes.{Wrote, Filled}
use Rattle.text.specs.Joined.{joined}
use Rattle.text.proofs.Writes.{Written, written_none, written-more, written-pair}
use Rattle.page_lines.specs.Page.{Row, row, blanks, right_in, line, row_text, row_line, blank_line, last_line, line_at, rows_in, columns}

-- ---- Spaces

pub blanks-length : (k : ℕ) → length (blanks k) ≡ k
blanks-length k = length-table k (λ _. 32)

-- as std has them
pub replicate-blanks : (k : ℕ) → replicate k 32 ≡ blanks k
replicate-blanks zero = refl
replicate-blanks (suc k) = ap (λ (l : List ℕ). 32 ∷ l) (replicate-blanks k)

-- ---- How many digits

one-digit : (p n : ℕ) → n < 10 → length (digits (suc p) n) ≡ 1
one-digit p n h = rw (lt-ltb n 10 h)

-- one digit more than a tenth of it has
digit-more : (p n k : ℕ) → 10 ≤ n → length (digits p (n / 10)) ≡ k → length (digits (suc p) n) ≡ suc k
digit-more p n k h e =
    let a = length-append (digits p (n / 10)) ((48 + n % 10) ∷ []) in
    rw (le-ltb n 10 h) (omega arith)

pub digits_1 : (n : ℕ) → n < 10 → 1 ≡ length (decimal n)
unfolding decimal
digits_1 n h = sym (one-digit 9 n h)

pub digits_2 : (n : ℕ) → 10 ≤ n → n < 100 → 2 ≡ length (decimal n)
unfolding decimal
digits_2 n l h = sym (digit-more 9 n 1 l (one-digit 8 (n / 10) (omega arith)))

pub digits_3 : (n : ℕ) → 100 ≤ n → n < 1000 → 3 ≡ length (decimal n)
unfolding decimal
digits_3 n l h = sym (digit-more 9 n 2 (omega arith) (digit-more 8 (n / 10) 1 (omega arith) (one-digit 7 (n / 10 / 10) (omega arith))))

pub digits_4 : (n : ℕ) → 1000 ≤ n → n < 10000 → 4 ≡ length (decimal n)
unfolding decimal
digits_4 n l h = sym (digit-more 9 n 3 (omega arith) (digit-more 8 (n / 10) 2 (omega arith) (digit-more 7 (n / 10 / 10) 1 (omega arith) (one-digit 6 (n / 10 / 10 / 10) (omega arith)))))

pub digits_5 : (n : ℕ) → 10000 ≤ n → n < 100000 → 5 ≡ length (decimal n)
unfolding decimal
digits_5 n l h =
    sym (digit-more 9 n 4 (omega arith) (digit-more 8 (n / 10) 3 (omega arith) (digit-more 7 (n / 10 / 10) 2 (omega arith) (digit-more 6 (n / 10 / 10 / 10) 1 (omega arith) (one-digit 5 (n / 10 / 10 / 10 / 10) (omega arith))))))

-- every number below a power of ten has no more digits than that
pub fits-3 : (n : ℕ) → n < 1000 → length (decimal n) ≤ 3
fits-3 n h = test (ltb n 10) (λ e. let a = digits_1 n (ltb-true n 10 e) in omega arith)
    (λ e. test (ltb n 100) (λ f. let a = digits_2 n (ltb-false n 10 e) (ltb-true n 100 f) in omega arith)
    (λ f. let a = digits_3 n (ltb-false n 100 f) h in omega arith))

pub fits-4 : (n : ℕ) → n < 10000 → length (decimal n) ≤ 4
fits-4 n h = test (ltb n 1000) (λ e. let a = fits-3 n (ltb-true n 1000 e) in omega arith)
    (λ e. let a = digits_4 n (ltb-false n 1000 e) h in omega arith)

pub fits-5 : (n : ℕ) → n < 100000 → length (decimal n) ≤ 5
fits-5 n h = test (ltb n 10000) (λ e. let a = fits-4 n (ltb-true n 10000 e) in omega arith)
    (λ e. let a = digits_5 n (ltb-false n 10000 e) h in omega arith)

-- ---- A number in its columns

pub right-length : (w n : ℕ) → length (decimal n) ≤ w → length (right_in w n) ≡ w
right-length w n h =
    let a = length-append (blanks (w - length (decimal n))) (decimal n) in
    let b = blanks-length (w - length (decimal n)) in
    omega arith

pub right-pieces : (b : List ℕ) {b₁ b₂ : List ℕ} (at w n k : ℕ) {k₁ k₂ : ℕ} → k ≡ length (decimal n) → Wrote (blanks (w - k)) at b k₁ b₁ → Wrote (digits 10 n) k₁ b₁ k₂ b₂ → Wrote (right_in w n) at b k₂ b₂
unfolding decimal
right-pieces b at w n k e w₁ w₂ = rw (← e) (written-pair (written-more (digits 10 n) (written-more (blanks (w - k)) (written_none b at) w₁) w₂))

-- ---- A line

pub line-pieces : (b : List ℕ) {b₁ b₂ : List ℕ} (at : ℕ) (t : List ℕ) {k₁ k₂ : ℕ} → Wrote t at b k₁ b₁ → Wrote (blanks (at + columns - k₁) ++ (10 ∷ [])) k₁ b₁ k₂ b₂ → Wrote (line t) at b k₂ b₂
unfolding line
line-pieces b at t {k₁} w₁ w₂ =
    let e : at + columns - k₁ ≡ columns - length t = let d = w₁.0 in omega arith in
    written-pair (written-more (blanks (columns - length t) ++ (10 ∷ [])) (written-more t (written_none b at) w₁) (rw (← e) w₂))

pub rest-pieces : (b : List ℕ) {b₁ b₂ : List ℕ} (at k : ℕ) {k₁ k₂ : ℕ} → Wrote (blanks k) at b k₁ b₁ → Wrote (10 ∷ []) k₁ b₁ k₂ b₂ → Wrote (blanks k ++ (10 ∷ [])) at b k₂ b₂
rest-pieces b at k w₁ w₂ = written-pair (written-more (10 ∷ []) (written-more (blanks k) (written_none b at) w₁) w₂)

pub rest-ends : (at from : ℕ) {r : ℕ} → from ≤ at → at ≤ from + columns → r ≡ at + length (blanks (from + columns - at) ++ (10 ∷ [])) → r ≡ from + columns + 1
rest-ends at from h l e =
    let b = length-append (blanks (from + columns - at)) (10 ∷ []) in
    let d = blanks-length (from + columns - at) in
    omega arith

-- a text that fits makes a line of 40 columns and its newline
pub line-length : (t : List ℕ) → length t ≤ columns → length (line t) ≡ columns + 1
unfolding line
line-length t h =
    let a = length-append t (blanks (columns - length t) ++ (10 ∷ [])) in
    let b = length-append (blanks (columns - length t)) (10 ∷ []) in
    let d = blanks-length (columns - length t) in
    omega arith

-- ---- The line of a firing

pub row-pieces : (b : List ℕ) {b₁ b₂ b₃ b₄ b₅ b₆ : List ℕ} (at : ℕ) (r : Row) {k₁ k₂ k₃ k₄ k₅ k₆ : ℕ}
    → Wrote (right_in 5 r.serial) at b k₁ b₁ → Wrote (32 ∷ []) k₁ b₁ k₂ b₂ → Wrote (right_in 3 r.step) k₂ b₂ k₃ b₃ → Wrote (32 ∷ []) k₃ b₃ k₄ b₄ → Wrote (right_in 4 r.moved) k₄ b₄ k₅ b₅
    → Wrote (blanks (at + columns - k₅) ++ (10 ∷ [])) k₅ b₅ k₆ b₆ → Wrote (line (row_text r)) at b k₆ b₆
row-pieces b at r w₁ w₂ w₃ w₄ w₅ w₆ =
    line-pieces b at (row_text r)
    (written-pair (written-more (right_in 4 r.moved) (written-more (32 ∷ []) (written-more (right_in 3 r.step) (written-more (32 ∷ []) (written-more (right_in 5 r.serial) (written_none b at) w₁) w₂) w₃) w₄) w₅))
    w₆

-- ---- The last line

pub last-pieces : (b : List ℕ) {b₁ b₂ b₃ : List ℕ} (at k : ℕ) {k₁ k₂ k₃ : ℕ}
    → Wrote (112 ∷ 97 ∷ 103 ∷ 101 ∷ 32 ∷ []) at b k₁ b₁ → Wrote (digits 10 k) k₁ b₁ k₂ b₂ → Wrote (blanks (at + columns - k₂) ++ (10 ∷ [])) k₂ b₂ k₃ b₃ → Wrote (last_line k) at b k₃ b₃
unfolding decimal
last-pieces b at k w₁ w₂ w₃ =
    line-pieces b at ((112 ∷ 97 ∷ 103 ∷ 101 ∷ 32 ∷ []) ++ decimal k) (written-pair (written-more (digits 10 k) (written-more (112 ∷ 97 ∷ 103 ∷ 101 ∷ 32 ∷ []) (written_none b at) w₁) w₂)) w₃

-- ---- Lines by position

-- the firing at i of the first n has its line
pub line_of : (keys steps moved : List ℕ) (n i : ℕ) → i < n → line_at (rows_in keys steps moved n) i ≡ row_line (row (get_or keys i 0) (get_or steps i 0) (get_or moved i 0))
line_of keys steps moved n i h =
    let f : ℕ → Row = λ j. row (get_or keys j 0) (get_or steps j 0) (get_or moved j 0) in
    ap (λ (m : ℕ). pick (ltb i m) (row_line (get_or (table n f) i (row 0 0 0))) blank_line) (length-table n f)
    ∙ ap (λ (t : Bool). pick t (row_line (get_or (table n f) i (row 0 0 0))) blank_line) (lt-ltb i n h)
    ∙ ap row_line (get_d-table n f i (row 0 0 0) h)

-- past them the line is blank
pub line-past : (keys steps moved : List ℕ) (n i : ℕ) → n ≤ i → line_at (rows_in keys steps moved n) i ≡ blank_line
line-past keys steps moved n i h =
    let f : ℕ → Row = λ j. row (get_or keys j 0) (get_or steps j 0) (get_or moved j 0) in
    ap (λ (m : ℕ). pick (ltb i m) (row_line (get_or (table n f) i (row 0 0 0))) blank_line) (length-table n f)
    ∙ ap (λ (t : Bool). pick t (row_line (get_or (table n f) i (row 0 0 0))) blank_line) (le-ltb i n h)

-- a blank line is spaces alone
pub blank-pieces : (b : List ℕ) {b₁ : List ℕ} (at : ℕ) {k₁ : ℕ} → Wrote (blanks (at + columns - at) ++ (10 ∷ [])) at b k₁ b₁ → Wrote blank_line at b k₁ b₁
blank-pieces b at w = line-pieces b at [] (sym (add-zero at), refl) w

-- a page is its lines and the last one
pub page-pieces : (b : List ℕ) {b₁ b₂ : List ℕ} (t : List ℕ) (k : ℕ) {k₁ k₂ : ℕ} → Filled t b k₁ b₁ → Wrote (last_line k) k₁ b₁ k₂ b₂ → Filled (t ++ last_line k) b k₂ b₂
page-pieces b t k w₁ w₂ =
    let w = written-pair (written-more (last_line k) (written-more t (written_none b 0) (w₁.0 ∙ sym (zero-add (length t)), w₁.1)) w₂) in
    (w.0 ∙ zero-add (length (t ++ last_line k)), w.1)

-- all turns of a loop that writes the texts of a table from byte 0 on
pub table_filled : {b now : List ℕ} {i k : ℕ} (n : ℕ) (f : ℕ → List ℕ) → i ≡ n → Written b 0 (joined (table i f)) k now → Filled (joined (table n f)) b k now
table_filled {b} {now} {i} {k} n f e w =
    let p = written-pair w in
    subst (λ (m : ℕ). Filled (joined (table m f)) b k now) e (p.0 ∙ zero-add (length (joined (table i f))), p.1)
