-- Proofs of what specs/Claims says of ruled pages: every line fits, and the pages hold each firing once and in order.
-- Assumes nothing.
use mathlib.Core.Path.{◌≡◌, refl, sym, ap, ◌∙◌}
use mathlib.Core.Bool.{Bool, true, not, ◌&&◌}
use mathlib.Core.List.{List, [], ◌∷◌, ◌++◌, map}
use Prim.Native.Nat.{ℕ, zero, suc, ◌+◌, ◌-◌, ◌*◌, ◌/◌, ◌<◌, ◌≤◌}
use native.Mathlib.Omega.{arith}
use native.Mathlib.Nat.{zero-mul, suc-mul}
use lib.Dec.{ltb, leb, eqb}
use lib.ListN.{length, get_or, drop, length-append}
use borrow.Author.Tests.{lt-ltb, le-ltb, ltb-true, ltb-false, leb-true, eqb-true, not-true}
use Rattle.net.specs.Limits.{max_bases, max_live}
use Rattle.net.specs.Tests.{pick, all, table}
use Rattle.net.specs.Checks.{Check, check, clear, first}
use Rattle.net.proofs.Checks.{first-has}
use Rattle.net.proofs.Tests.{and_l, and_r, pick-case}
use Rattle.net.proofs.Tables.{table-cong}
use Rattle.bonds.proofs.Fill.{table-map}
use Rattle.text.specs.Ascii.{ascii}
use Rattle.text.specs.Decimal.{decimal}
use Rattle.text.specs.Joined.{joined}
use Rattle.text.proofs.Digits.{digits-length}
use Rattle.text.proofs.Writes.{sets-front}
use Rattle.page_lines.specs.Page.{Row, row, line, columns, page_rows, page_from, right_in, row_text, row_line, blank_line, last_line, line_at, page_lines, page_bytes, page_text}
use Rattle.page_lines.specs.Answers.{pages_of, is_page, page_checks, page_answer, written_if}
use Rattle.page_lines.specs.Claims.{holdable, FitsColumns, PageFits, lines_to, PagesHold, PrintedWhole, TurnedAway}
use Rattle.page_lines.proofs.Lines.{fits-3, fits-4, fits-5, right-length, line-length}

-- ---- Every line fits

row_fits : (r : Row) → holdable r ≡ true → FitsColumns r
row_fits r h =
    let s = ltb-true r.serial 65536 (and_l (ltb r.serial 65536) (ltb r.step 256 && leb r.moved max_bases) h) in
    let g = and_r (ltb r.serial 65536) (ltb r.step 256 && leb r.moved max_bases) h in
    let t = ltb-true r.step 256 (and_l (ltb r.step 256) (leb r.moved max_bases) g) in
    let m = leb-true r.moved max_bases (and_r (ltb r.step 256) (leb r.moved max_bases) g) in
    (fits-5 r.serial (omega arith), fits-3 r.step (omega arith), fits-4 r.moved (omega arith))

-- three numbers that fit come to 14 columns
text-length : (r : Row) → FitsColumns r → length (row_text r) ≡ 14
text-length r h =
    let a = right_in 5 r.serial in
    let b = right_in 3 r.step in
    let d = right_in 4 r.moved in
    let sp : List ℕ = 32 ∷ [] in
    let e₁ = right-length 5 r.serial h.0 in
    let e₂ = right-length 3 r.step h.1 in
    let e₃ = right-length 4 r.moved h.2 in
    let l₁ = length-append a sp in
    let l₂ = length-append (a ++ sp) b in
    let l₃ = length-append (a ++ sp ++ b) sp in
    let l₄ = length-append (a ++ sp ++ b ++ sp) d in
    omega arith

rows_fit : (rs : List Row) → all holdable rs ≡ true → (i : ℕ) → i < length rs → FitsColumns (get_or rs i (row 0 0 0))
rows_fit [] h i l = absurd (let z : ⊥ = omega (arith, l) in z)
rows_fit (r ∷ rs) h zero l = row_fits r (and_l (holdable r) (all holdable rs) h)
rows_fit (r ∷ rs) h (suc i) l = rows_fit rs (and_r (holdable r) (all holdable rs) h) i (omega (arith, l))

lines_fit : (rs : List Row) → all holdable rs ≡ true → (i : ℕ) → length (line_at rs i) ≡ columns + 1
lines_fit rs h i = pick-case (λ (t : List ℕ). length t ≡ columns + 1) (ltb i (length rs)) (row_line (get_or rs i (row 0 0 0))) blank_line
    (λ e. let l = text-length (get_or rs i (row 0 0 0)) (rows_fit rs h i (ltb-true i (length rs) e)) in line-length (row_text (get_or rs i (row 0 0 0))) (omega arith))
    (λ _. line-length [] (omega arith))

-- texts of one length come to a text of so many times that length
joined-exact : (m n : ℕ) (f : ℕ → List ℕ) → ((i : ℕ) → length (f i) ≡ m) → length (joined (table n f)) ≡ n * m
joined-exact m zero f h = sym (zero-mul m)
joined-exact m (suc n) f h =
    let a = length-append (f zero) (joined (table n (λ k. f (suc k)))) in
    let b = joined-exact m n (λ k. f (suc k)) (λ i. h (suc i)) in
    let d = h zero in
    let s = suc-mul n m in
    omega arith

last_fits : (k : ℕ) → length (last_line k) ≡ columns + 1
unfolding decimal
last_fits k =
    let a = length-append (112 ∷ 97 ∷ 103 ∷ 101 ∷ 32 ∷ []) (decimal k) in
    let b = digits-length 10 k in
    line-length ((112 ∷ 97 ∷ 103 ∷ 101 ∷ 32 ∷ []) ++ decimal k) (omega arith)

-- every page of every list of firing records fits
pub page-fits : (rs : List Row) (k : ℕ) → all holdable rs ≡ true → PageFits rs k
page-fits rs k h = record {
  numbers = rows_fit rs h;
  lines = lines_fit rs h;
  bytes =
      let a = joined-exact 41 50 (λ i. line_at rs (page_from k + i)) (λ i. lines_fit rs h (page_from k + i)) in
      let b = last_fits k in
      let d = length-append (joined (page_lines rs k)) (last_line k) in
      omega arith;
}

-- ---- Each firing once, in order

table-split : {X : Type 0} (m k : ℕ) (f : ℕ → X) → table (m + k) f ≡ table m f ++ table k (λ j. f (m + j))
table-split zero k f =
    let e : zero + k ≡ k = omega arith in
    ap (λ (n : ℕ). table n f) e ∙ table-cong k f (λ j. f (zero + j)) (λ p _. let q : p ≡ zero + p = omega arith in ap f q)
table-split {X} (suc m) k f =
    let e : suc m + k ≡ suc (m + k) = omega arith in
    let q : table k (λ j. f (suc (m + j))) ≡ table k (λ j. f (suc m + j)) =
    table-cong k (λ j. f (suc (m + j))) (λ j. f (suc m + j)) (λ p _. let r : suc (m + p) ≡ suc m + p = omega arith in ap f r) in
    ap (λ (n : ℕ). table n f) e ∙ ap (λ (l : List X). f zero ∷ l) (table-split m k (λ j. f (suc j)) ∙ ap (λ (l : List X). table m (λ j. f (suc j)) ++ l) q)

-- the lines of pages 1 to p are the first 50 times p lines
lines-upto : (rs : List Row) (p : ℕ) → lines_to rs p ≡ table (page_rows * p) (line_at rs)
lines-upto rs zero = refl
lines-upto rs (suc p) =
    let e : page_from (suc p) ≡ page_rows * p = omega arith in
    let q : page_rows * p + page_rows ≡ page_rows * suc p = omega arith in
    (λ i. lines-upto rs p i ++ table page_rows (λ j. line_at rs (e i + j)))
    ∙ sym (table-split (page_rows * p) page_rows (line_at rs))
    ∙ ap (λ (m : ℕ). table m (line_at rs)) q

-- so many pages have room for all
pages-enough : (n : ℕ) → n ≤ page_rows * pages_of n
pages-enough n = pick-case (λ (p : ℕ). n ≤ page_rows * p) (eqb n 0) 1 ((n + 49) / 50) (λ e. let d = eqb-true n 0 e in omega arith) (λ _. omega arith)

-- the first lines are those of the list
list-lines : (rs : List Row) → table (length rs) (line_at rs) ≡ map row_line rs
list-lines rs =
    table-cong (length rs) (line_at rs) (λ i. row_line (get_or rs i (row 0 0 0))) (λ p h. ap (λ (t : Bool). pick t (row_line (get_or rs p (row 0 0 0))) blank_line) (lt-ltb p (length rs) h))
    ∙ table-map row_line rs (row 0 0 0)

-- the rest are blank
blank-lines : (rs : List Row) (m : ℕ) → table m (λ j. line_at rs (length rs + j)) ≡ table m (λ _. blank_line)
blank-lines rs m =
    table-cong m (λ j. line_at rs (length rs + j)) (λ _. blank_line)
    (λ p h. ap (λ (t : Bool). pick t (row_line (get_or rs (length rs + p) (row 0 0 0))) blank_line) (le-ltb (length rs + p) (length rs) (omega arith)))

pub pages-hold : (rs : List Row) → PagesHold rs
pages-hold rs =
    let n = length rs in
    let m = page_rows * pages_of n - n in
    let h = pages-enough n in
    let e : page_rows * pages_of n ≡ n + m = omega arith in
    lines-upto rs (pages_of n)
    ∙ ap (λ (k : ℕ). table k (line_at rs)) e
    ∙ table-split n m (line_at rs)
    ∙ (λ i. list-lines rs i ++ blank-lines rs m i)

-- ---- All of the buffer

pub printed-whole : (rs : List Row) (k : ℕ) (b : List ℕ) → all holdable rs ≡ true → PrintedWhole rs k b
unfolding written_if
printed-whole rs k b h e =
    let n = ltb (length b) page_bytes in
    let r = ltb-false (length b) page_bytes (not-true n (and_l (not n) (clear (check 24 (ltb max_live (length rs)) ∷ check 25 (not (is_page (length rs) k)) ∷ [])) e)) in
    let w = (page-fits rs k h).bytes in
    rw e (sets-front (page_text rs k) b (omega arith) ∙ ap (λ (m : ℕ). page_text rs k ++ drop m b) w)

-- a line and a last line, spelt out
pub line-M1 : row_line (row 1 0 3) ≡ ascii "    1   0    3                          \n"
unfolding line decimal
line-M1 = refl

pub line-full : row_line (row 65535 63 64) ≡ ascii "65535  63   64                          \n"
unfolding line decimal
line-full = refl

pub last-6 : last_line 6 ≡ ascii "page 6                                  \n"
unfolding line decimal
last-6 = refl

pub away : (rs : List Row) (k : ℕ) (b : List ℕ) → TurnedAway rs k b
unfolding page_answer written_if
away rs k b = record {
  answer = λ h. rw h;
  number = λ h.
      let w = first-has (λ (n : ℕ). leb 23 n && leb n 25) cs refl h in
      (leb-true 23 (first cs) (and_l (leb 23 (first cs)) (leb (first cs) 25) w), leb-true (first cs) 25 (and_r (leb 23 (first cs)) (leb (first cs) 25) w));
  buffer = λ h. rw h;
}
  where
    cs : List Check
    cs = page_checks (length b) (length rs) k
