-- What is claimed of a sheet's text, for every accepted sheet.
-- Definitions only; proofs/Back has the theorem.
use Rattle.std.specs.Prelude.{◌≡◌, ℕ, List, []}
use Rattle.format.specs.NetOf.{net_of}
use Rattle.encode.specs.Encoding.{bytes_of}
use Rattle.sheet_text.specs.Reading.{Reading, understood, mistake, read_text, net_text}

-- the text of a sheet
abbrev pub sheet_text : List ℕ → List ℕ
sheet_text s = net_text (net_of s)

-- the sheet that a text gives; none where it is not understood
abbrev pub sheet_of : Reading → List ℕ
sheet_of (understood net) = bytes_of net
sheet_of (mistake k l) = []

-- Reading what was printed gives the net back, and so the sheet's bytes.
pub record ReadBack (s : List ℕ) : Type 0 where
  pub net : read_text (sheet_text s) ≡ understood (net_of s)
  pub bytes : sheet_of (read_text (sheet_text s)) ≡ s
