-- Laws of the lines of answers that are given as words and values: that they are the lines of the answers, and that the
-- values are low. Assumes nothing.
use mathlib.Core.Path.{◌≡◌, refl, ap, ◌∙◌}
use mathlib.Core.Bool.{true}
use mathlib.Core.List.{List, [], ◌∷◌, ◌++◌, map}
use Prim.Native.Nat.{ℕ, zero, suc, ◌+◌, ◌≤◌}
use native.Mathlib.Omega.{arith}
use native.Mathlib.Nat.{le_of_suc-le-suc, zero-add}
use lib.Dec.{leb}
use lib.ListN.{length, get_or}
use borrow.Author.Tests.{leb-true}
use Rattle.causal.proofs.Tests.{both}
use Rattle.net.specs.Tests.{all, table}
use Rattle.net.specs.declared.Key.{Key}
use Rattle.net.proofs.Tests.{and_l, and_r}
use Rattle.net.proofs.Tables.{table-cong}
use Rattle.text.specs.Decimal.{digits, decimal}
use Rattle.text.specs.Joined.{joined}
use Rattle.text.specs.Writes.{Wrote, Filled}
use Rattle.text.specs.Ascii.{ascii}
use Rattle.text.proofs.Writes.{written_none, written-more}
use Rattle.session.specs.Runs.{Answered}
use Rattle.commands.specs.declared.Answer.{Answer}
use Rattle.commands.specs.declared.Answer.TheVariants.{Fired, Undone, Refused}
use Rattle.commands.specs.Answers.{word_of, value_of}
use Rattle.session.specs.Lists.{low_refusal}
use Rattle.report.specs.Lines.{answer_line, told_line, LowValue}
use Rattle.report.specs.Said.{line_at, LowValues}
use Rattle.output.specs.Output.{sheet_refused, refused_sheet}

-- ---- The answers' lines

-- the lines of a list of answers; the first has the number k + 1
abbrev pub answered_lines : ℕ → List Answered → List ℕ
answered_lines k [] = []
answered_lines k (a ∷ rest) = told_line (suc k) a.answer a.key ++ answered_lines (suc k) rest

abbrev pub words : List Answered → List ℕ
words l = map (λ (a : Answered). word_of a.answer) l

abbrev pub values : List Answered → List ℕ
values l = map (λ (a : Answered). value_of a.answer a.key) l

-- numbered from k + 1
abbrev from : ℕ → List ℕ → List ℕ → ℕ → List ℕ
from k ws vs i = answer_line (i + k + 1) (get_or ws i 0) (get_or vs i 0)

lines_from : (k : ℕ) (l : List Answered) → joined (table (length l) (from k (words l) (values l))) ≡ answered_lines k l
lines_from k [] = refl
lines_from k (a ∷ rest) =
    let one : 0 + k + 1 ≡ suc k = omega arith in
    let first : from k (words (a ∷ rest)) (values (a ∷ rest)) 0 ≡ told_line (suc k) a.answer a.key = ap (λ (n : ℕ). answer_line n (word_of a.answer) (value_of a.answer a.key)) one in
    let shift = table-cong (length rest) (λ i. from k (words (a ∷ rest)) (values (a ∷ rest)) (suc i)) (from (suc k) (words rest) (values rest)) (λ i _. ap (λ (n : ℕ). answer_line n (get_or (words rest) i 0) (get_or (values rest) i 0)) (next i)) in
    let ih = lines_from (suc k) rest in
    λ j. first j ++ (ap joined shift ∙ ih) j
  where
    next : (i : ℕ) → suc i + k + 1 ≡ i + suc k + 1
    next i = omega arith

-- the lines of all the answers
pub told-lines : (l : List Answered) → joined (table (length l) (line_at (words l) (values l))) ≡ answered_lines 0 l
told-lines l =
    ap joined (table-cong (length l) (line_at (words l) (values l)) (from 0 (words l) (values l)) (λ i _. ap (λ (n : ℕ). answer_line n (get_or (words l) i 0) (get_or (values l) i 0)) (same i))) ∙ lines_from 0 l
  where
    same : (i : ℕ) → i + 1 ≡ i + 0 + 1
    same i = omega arith

-- ---- The values are low: a refusal is 11 to 21

low_value : (a : Answer) (k : Key) → low_refusal a ≡ true → LowValue (word_of a) (value_of a k)
low_value Fired k h e = both true refl e
low_value Undone k h e = both true refl e
low_value (Refused r) k h e = let m : r ≤ 21 = leb-true r 21 (and_r (leb 11 r) (leb r 21) h) in omega arith

pub low_values : (l : List Answered) → all (λ (a : Answered). low_refusal a.answer) l ≡ true → LowValues (words l) (values l) (length l)
low_values [] h i e = absurd (omega arith)
low_values (a ∷ rest) h zero e = low_value a.answer a.key (and_l (low_refusal a.answer) _ h)
low_values (a ∷ rest) h (suc i) e = low_values rest (and_r (low_refusal a.answer) _ h) i (le_of_suc-le-suc e)

-- ---- A refused sheet

-- the three writers, one after the other, leave the line
pub refused-pieces : (b : List ℕ) {b₁ b₂ b₃ : List ℕ} {k₁ k₂ k₃ : ℕ} (n : ℕ) → Wrote sheet_refused 0 b k₁ b₁ → Wrote (digits 10 n) k₁ b₁ k₂ b₂ → Wrote (ascii "\n") k₂ b₂ k₃ b₃ → Filled (refused_sheet n) b k₃ b₃
unfolding refused_sheet decimal
refused-pieces b n w₁ w₂ w₃ =
    let all = written-more (ascii "\n") (written-more (digits 10 n) (written-more sheet_refused (written_none b 0) w₁) w₂) w₃ in
    (all.count ∙ zero-add (length (sheet_refused ++ digits 10 n ++ ascii "\n")), all.list)
