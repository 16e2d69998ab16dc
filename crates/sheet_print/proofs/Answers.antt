-- Printing a sheet: the pieces written one after the other, and one law for each answer.
-- Assumes nothing.
use mathlib.Core.Path.{◌≡◌, refl, ap, ◌∙◌}
use Prim.Native.Nat.{ℕ, ◌≤◌}
use native.Mathlib.Omega.{arith}
use mathlib.Core.List.{List, ◌++◌}
use lib.ListN.{length, length-append}
use lib.Seq.{sets}
use Rattle.text.specs.Ascii.{ascii}
use Rattle.text.specs.Writes.{Wrote, Filled}
use Rattle.format.specs.Parts.{places_of}
use Rattle.sheet.specs.Checks.{checked}
use Rattle.net.specs.declared.Verdict.TheVariants.{Accepted, Refused}
use Rattle.sheet.proofs.Accepted.{accepted-promised}
use Rattle.sheet_text.specs.declared.Line.TheVariants.{Places}
use Rattle.sheet_text.specs.Claims.{sheet_text}
use Rattle.sheet_print.specs.declared.Printed.TheVariants as printed
use Rattle.sheet_print.specs.Printing.{printed_of, text_printed}
use Rattle.sheet_print.specs.Room.{text_room}
use Rattle.sheet_print.specs.Pieces.{line_bytes, one, parts_text, coupled_text, steps_text}
use Rattle.sheet_print.proofs.Lines.{wrote-both, wrote-three, wrote_as, places_row, places-length}
use Rattle.sheet_print.proofs.Whole.{sheet-pieces}
use Rattle.sheet_print.proofs.Fits.{all_room}

-- the first line with a number of places n that was read, the parts, the couplings, the steps
pub wrote-net : (b : List ℕ) {b₁ b₂ b₃ b₄ : List ℕ} {k₁ k₂ k₃ k₄ : ℕ} (s : List ℕ) (n : ℕ) → checked s ≡ Accepted → n ≡ places_of s
    → Wrote (one (ascii "places ") n) 0 b k₁ b₁ → Wrote (parts_text s) k₁ b₁ k₂ b₂ → Wrote (coupled_text s) k₂ b₂ k₃ b₃ → Wrote (steps_text s) k₃ b₃ k₄ b₄
    → Filled (sheet_text s) b k₄ b₄
wrote-net b {b₁} {k₁ = k₁} {k₄ = k₄} s n h e p q r t =
    let rest : List ℕ = parts_text s ++ (coupled_text s ++ steps_text s) in
    let l : one (ascii "places ") n ++ rest ≡ sheet_text s =
    ap (λ (x : List ℕ). x ++ rest) (places_row n ∙ ap (λ (m : ℕ). line_bytes (Places m)) e) ∙ sheet-pieces s (accepted-promised s h).start_size in
    let w = wrote_as b 0 (one (ascii "places ") n ++ rest) (sheet_text s) l
    (wrote-both b 0 (one (ascii "places ") n) rest p (wrote-three b₁ k₁ (parts_text s) (coupled_text s) (steps_text s) q r t)) in
    let c : k₄ ≡ length (sheet_text s) = let d = w.0 in omega arith in
    (c, w.1)

text-fits : (s : List ℕ) → checked s ≡ Accepted → length (sheet_text s) ≤ text_room
text-fits s h =
    let first : List ℕ = line_bytes (Places (places_of s)) in
    let e = ap (λ (t : List ℕ). length t) (sheet-pieces s (accepted-promised s h).start_size) in
    let a = length-append first (parts_text s ++ (coupled_text s ++ steps_text s)) in
    let b = length-append (parts_text s) (coupled_text s ++ steps_text s) in
    let c = length-append (coupled_text s) (steps_text s) in
    omega (arith, all_room s h, places-length (places_of s))

module _ (s b : List ℕ) where
  pub printed-text : {b' : List ℕ} (k : ℕ) → checked s ≡ Accepted → Filled (sheet_text s) b k b' → (printed.Text k ≡ printed_of s) × ((b' ≡ sets b 0 (text_printed s)) × (k ≤ text_room))
  unfolding printed_of text_printed
  printed-text k h w = let l = text-fits s h in let e = w.0 in rw h (λ i. printed.Text (w.0 i), (w.1, omega arith))

  pub printed-refused : (n : ℕ) → checked s ≡ Refused n → (printed.Refused n ≡ printed_of s) × ((b ≡ sets b 0 (text_printed s)) × (0 ≤ text_room))
  unfolding printed_of text_printed
  printed-refused n h = rw h (refl, (refl, omega arith))
