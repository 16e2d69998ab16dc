-- The pieces of a sheet's text: a line, and what each number of the sheet's lists is printed as.
-- Definitions only. proofs/Whole shows that the pieces make sheet_text's text.
use Rattle.std.specs.Prelude.{ℕ, List, [], ◌∷◌, ◌++◌, get_or}
use Rattle.net.specs.Tests.{table}
use Rattle.net.specs.Journal.{transition}
use Rattle.net.specs.declared.Bond.{Bond}
use Rattle.net.specs.declared.Entry.{Entry}
use Rattle.text.specs.Decimal.{decimal}
use Rattle.text.specs.Joined.{joined}
use Rattle.lexing.specs.Printed.{line_text}
use Rattle.format.specs.Parts.{bases_of, transitions_of, start_places, transition_bytes}
use Rattle.format.specs.Arcs.{entry_count, nth_entry, in_count, nth_in_bond, out_count, nth_out_bond}
use Rattle.format.specs.NetOf.{start_bond_count, nth_start_bond}
use Rattle.sheet_text.specs.declared.Line.{Line}
use Rattle.sheet_text.specs.declared.Line.TheVariants.{Part, Coupled, Step, Move, Before, After}
use Rattle.sheet_text.specs.Lines.{line_tokens}

-- a line and its newline
abbrev pub line_bytes : Line → List ℕ
line_bytes l = line_text (line_tokens l) ++ (10 ∷ [])

-- ---- a line as words with a number behind each; the spaces stand in the words

abbrev pub named : List ℕ → ℕ → List ℕ
named w n = w ++ decimal n

abbrev pub one : List ℕ → ℕ → List ℕ
one w n = named w n ++ (10 ∷ [])

abbrev pub two : List ℕ → ℕ → List ℕ → ℕ → List ℕ
two w n v m = named w n ++ one v m

abbrev pub three : List ℕ → ℕ → List ℕ → ℕ → List ℕ → ℕ → List ℕ
three w n v m u k = named w n ++ two v m u k

-- a word and the two parts of a coupling
abbrev pub bond_row : List ℕ → Bond → List ℕ
bond_row w b = two w b.lo (32 ∷ []) b.hi

-- ---- the lines of a sheet s, by position

abbrev pub part_at : List ℕ → ℕ → List ℕ
part_at s i = line_bytes (Part i (get_or (start_places s) i 0))

abbrev pub coupled_at : List ℕ → ℕ → List ℕ
coupled_at s i = let b : Bond = nth_start_bond s i in line_bytes (Coupled b.lo b.hi)

-- ---- the lines of a step's bytes b, by position

abbrev pub move_at : List ℕ → ℕ → List ℕ
move_at b i = let e : Entry = nth_entry b i in line_bytes (Move e.base e.from e.to)

abbrev pub before_at : List ℕ → ℕ → List ℕ
before_at b i = let x : Bond = nth_in_bond b i in line_bytes (Before x.lo x.hi)

abbrev pub after_at : List ℕ → ℕ → List ℕ
after_at b i = let x : Bond = nth_out_bond b i in line_bytes (After x.lo x.hi)

-- ---- all lines of a list

abbrev pub parts_text : List ℕ → List ℕ
parts_text s = joined (table (bases_of s) (part_at s))

abbrev pub coupled_text : List ℕ → List ℕ
coupled_text s = joined (table (start_bond_count s) (coupled_at s))

abbrev pub moves_text : List ℕ → List ℕ
moves_text b = joined (table (entry_count b) (move_at b))

abbrev pub before_text : List ℕ → List ℕ
before_text b = joined (table (in_count b) (before_at b))

abbrev pub after_text : List ℕ → List ℕ
after_text b = joined (table (out_count b) (after_at b))

-- what a step does
unfoldable pub arcs_text : List ℕ → List ℕ
arcs_text b = moves_text b ++ (before_text b ++ after_text b)

-- step k of a sheet, and all steps
unfoldable pub step_at : List ℕ → ℕ → List ℕ
step_at s k = line_bytes (Step k) ++ arcs_text (transition_bytes s (transition k))

abbrev pub steps_text : List ℕ → List ℕ
steps_text s = joined (table (transitions_of s) (step_at s))
