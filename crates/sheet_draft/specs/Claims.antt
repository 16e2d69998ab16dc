-- What is claimed of reading a sheet's printed text: for every accepted sheet of bytes, it gives the sheet.
-- Definitions only; proofs/Back has the theorem.
use Rattle.std.specs.Prelude.{◌≡◌, ℕ, List, length}
use Rattle.sheet_text.specs.Reading.{read_text}
use Rattle.sheet_text.specs.Claims.{sheet_text}
use Rattle.sheet_draft.specs.Made.{made_of, sheet_made}
use Rattle.sheet_draft.specs.declared.Made.TheVariants.{Sheet}

pub record MadeBack (s : List ℕ) : Type 0 where
  pub made : made_of (read_text (sheet_text s)) ≡ Sheet (length s)
  pub bytes : sheet_made (read_text (sheet_text s)) ≡ s
