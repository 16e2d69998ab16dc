-- What printing a sheet and reading its text come to: one law for each answer of the printing.
-- Assumes nothing but sheet_draft's theorem that an accepted sheet's text makes the sheet.
use mathlib.Core.Path.{◌≡◌, refl, sym, ap, ◌∙◌}
use mathlib.Core.Bool.{Bool, true, false, true≢false}
use Prim.Native.Nat.{ℕ, ◌<◌, ◌≤◌}
use native.Mathlib.Omega.{arith}
use mathlib.Core.List.{List}
use lib.ListN.{length, get_or, take, drop}
use lib.Seq.{sets, take-append_seam}
use Rattle.text.proofs.Writes.{sets-front}
use Rattle.sheet.specs.Checks.{checked}
use Rattle.net.specs.declared.Verdict.{Verdict}
use Rattle.net.specs.declared.Verdict.TheVariants.{Accepted, Refused}
use Rattle.encode.proofs.Bytes.{bytes-known}
use Rattle.sheet_text.specs.Reading.{read_text}
use Rattle.sheet_text.specs.Claims.{sheet_text}
use Rattle.sheet_draft.specs.declared.Made.{Made}
use Rattle.sheet_draft.specs.Made.{made_of, sheet_made}
use Rattle.sheet_draft.proofs.Back.{made-back}
use Rattle.sheet_print.specs.declared.Printed.{Printed}
use Rattle.sheet_print.specs.declared.Printed.TheVariants as printed
use Rattle.sheet_print.specs.Printing.{printed_by, printed_of, text_printed, end_of}
use Rattle.sheet_again.specs.declared.Again.TheVariants as again
use Rattle.sheet_again.specs.Again.{again_of, bytes_again}

-- ---- what an answer of the printing says of the sheet

abbrev is_text : Printed → Bool
is_text (printed.Text n) = true
is_text (printed.Refused n) = false

abbrev number : Printed → ℕ
number (printed.Text n) = 0
number (printed.Refused n) = n

text-told : (a : Verdict) (t : List ℕ) (n : ℕ) → printed.Text n ≡ printed_by a t → (a ≡ Accepted) × (n ≡ length t)
text-told Accepted t n e = (refl, ap end_of e)
text-told (Refused m) t n e = absurd (true≢false (ap is_text e))

refused-told : (a : Verdict) (t : List ℕ) (n : ℕ) → printed.Refused n ≡ printed_by a t → a ≡ Refused n
refused-told Accepted t n e = absurd (true≢false (sym (ap is_text e)))
refused-told (Refused m) t n e = ap Refused (sym (ap number e))

-- ---- a text that stands at the front of a buffer

front : (t b : List ℕ) (n : ℕ) → n ≡ length t → n ≤ length b → take n (sets b 0 t) ≡ t
front t b n e h = ap (λ (k : ℕ). take k (sets b 0 t)) e ∙ ap (λ (l : List ℕ). take (length t) l) (sets-front t b (omega arith)) ∙ take-append_seam t (drop (length t) b)

-- ---- the two answers

module _ (s : List ℕ) where
  -- the printing answered n bytes of text, with which text' begins; what was read from them is m, and buf' has the bytes
  pub read_again : (text : List ℕ) {text' : List ℕ} (n : ℕ) (m : Made) (buf : List ℕ) {buf' : List ℕ} → ((i : ℕ) → get_or s i 0 < 256) → n ≤ length text
      → printed.Text n ≡ printed_of s → text' ≡ sets text 0 (text_printed s)
      → m ≡ made_of (read_text (take n text')) → buf' ≡ sets buf 0 (sheet_made (read_text (take n text')))
      → (again.Read m ≡ again_of s) × (buf' ≡ sets buf 0 (bytes_again s))
  unfolding printed_of text_printed
  read_again text {text'} n m buf b l e w d x =
      let (h, k) = text-told (checked s) (sheet_text s) n e in
      let back = made-back s h (bytes-known s b) in
      let t : take n text' ≡ sheet_text s = ap (λ (y : List ℕ). take n y) w ∙ rw h (front (sheet_text s) text n k l) in
      rw h (
        ap again.Read (d ∙ ap (λ (y : List ℕ). made_of (read_text y)) t ∙ back.made),
        x ∙ ap (λ (y : List ℕ). sets buf 0 (sheet_made (read_text y))) t ∙ ap (λ (y : List ℕ). sets buf 0 y) back.bytes,
      )

  -- the printing answered that the sheet is refused; nothing was read
  pub refused-again : (n : ℕ) (buf : List ℕ) → printed.Refused n ≡ printed_of s → (again.Refused n ≡ again_of s) × (buf ≡ sets buf 0 (bytes_again s))
  unfolding printed_of
  refused-again n buf e = let h = refused-told (checked s) (sheet_text s) n e in rw h (refl, refl)
