-- Sheets A and B of document 01 are made again of their printed text; a short text, byte for byte; what cannot be held.
-- Assumes nothing: by the theorem of Back, and by computation.
use mathlib.Core.Path.{◌≡◌, refl}
use Prim.Native.Nat.{ℕ}
use mathlib.Core.List.{List, [], ◌∷◌}
use Rattle.net.specs.Tests.{table}
use Rattle.net.specs.declared.Entry.{Entry}
use Rattle.sheet.specs.Samples.{sheet_a, sheet_b}
use Rattle.sheet.proofs.Samples.{sheet_a-accepted, sheet_b-accepted}
use Rattle.text.specs.Ascii.{ascii}
use Rattle.lexing.specs.Tokens.{lines_of, next_of}
use Rattle.encode.specs.Encoding.{bytes_of}
use Rattle.sheet_text.specs.Lines.{line_of, step_line_of}
use Rattle.sheet_text.specs.Reading.{draft, arcs, understood, read_text}
use Rattle.sheet_text.specs.declared.Line.TheVariants.{Wrong}
use Rattle.sheet_draft.specs.declared.Made.TheVariants.{Sheet, Mistake, TooLarge}
use Rattle.sheet_draft.specs.Made.{made_of, sheet_made}
use Rattle.sheet_draft.specs.Claims.{MadeBack}
use Rattle.sheet_draft.proofs.Back.{made-back}

pub sheet_a-back : MadeBack sheet_a
sheet_a-back = made-back sheet_a sheet_a-accepted refl

pub sheet_b-back : MadeBack sheet_b
sheet_b-back = made-back sheet_b sheet_b-accepted refl

-- one part at place 0, one step that takes it to place 1
pub short-bytes : sheet_made (read_text (ascii "places 2\npart 0 at 0\nstep 0\nmove 0 from 0 to 1\n")) ≡ 1 ∷ 2 ∷ 1 ∷ 1 ∷ 16 ∷ 0 ∷ 1 ∷ 0 ∷ 17 ∷ 0 ∷ 0 ∷ 0 ∷ 17 ∷ 0 ∷ 6 ∷ 0 ∷ 0 ∷ 1 ∷ 0 ∷ 0 ∷ 1 ∷ 0 ∷ 0 ∷ []
unfolding read_text lines_of next_of line_of step_line_of bytes_of
short-bytes = refl

pub a-mistake : made_of (read_text (ascii "places 2\npart 0 on 0\n")) ≡ Mistake 2 Wrong
unfolding read_text lines_of next_of line_of step_line_of
a-mistake = refl

-- 255 entries in a step can be held, 256 cannot; nor can 256 parts
abbrev moves : ℕ → List Entry
moves n = table n (λ k. record { base = 0; from = 0; to = 0 })

pub entries-255 : made_of (understood (draft 1 1 (0 ∷ []) [] (arcs (moves 255) [] [] ∷ []))) ≡ Sheet 785
unfolding bytes_of
entries-255 = refl

pub entries-256 : made_of (understood (draft 1 1 (0 ∷ []) [] (arcs (moves 256) [] [] ∷ []))) ≡ TooLarge
unfolding bytes_of
entries-256 = refl

pub parts-256 : made_of (understood (draft 1 256 (table 256 (λ k. 0)) [] [])) ≡ TooLarge
unfolding bytes_of
parts-256 = refl
