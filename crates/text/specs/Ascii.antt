-- The bytes of a text, so that definitions show the words that the program writes.
-- Definitions only.
use Rattle.std.specs.Prelude.{ℕ, List}
use Prim.Native.String.{String, [], ◌∷◌}
use Prim.Native.Char.{code}
use mathlib.Core.List as L

-- a byte for each character: its code, which is below 128 for every character that is used here
abbrev pub ascii : String → List ℕ
ascii [] = L.[]
ascii (c ∷ s) = L.◌∷◌ (code c) (ascii s)
