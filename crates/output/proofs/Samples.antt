-- Document 01's whole example, by computation on `output`; and inputs that are too short or whose sheet is refused.
-- Assumes nothing.
use mathlib.Core.Path.{◌≡◌, refl}
use mathlib.Core.List.{List, [], ◌∷◌}
use Prim.Native.Nat.{ℕ}
use Rattle.text.specs.Decimal.{decimal}
use Rattle.text.specs.Ascii.{ascii}
use Rattle.tally.specs.Counts.{one_more, counted_of}
use Rattle.format.specs.Parts.{part_of, transition_bytes}
use Rattle.format.specs.NetOf.{net_of}
use Rattle.sheet_head.specs.Conditions.{wrong_size, wrong_version, wrong_counts, wrong_pairs, wrong_start_places, wrong_start_bonds}
use Rattle.sheet_arcs.specs.Conditions.{wrong_width, wrong_entries}
use Rattle.sheet_bonds.specs.Conditions.{wrong_bonds}
use Rattle.sheet.specs.Checks.{sheet_checks}
use Rattle.report.specs.Lines.{word_text, answer_line}
use Rattle.final_lines.specs.Final.{closing_of}
use Rattle.output.specs.Output.{refused_sheet, session_text, output}
use Rattle.output.specs.Samples.{input_a, output_a}

-- sheet A's session prints what document 01 has
pub output-A : output input_a ≡ output_a
unfolding output session_text closing_of answer_line word_text decimal one_more counted_of net_of part_of transition_bytes sheet_checks wrong_size wrong_version wrong_counts wrong_pairs wrong_start_places wrong_start_bonds wrong_width wrong_entries wrong_bonds
output-A = refl

abbrev refused_one : List ℕ
refused_one = ascii "sheet refused 1\n"

-- no byte, and one byte of a length: an empty sheet
pub output-none : output [] ≡ refused_one
unfolding output refused_sheet decimal sheet_checks wrong_size wrong_version wrong_counts wrong_pairs wrong_start_places wrong_start_bonds
output-none = refl

pub output-one-byte : output (40 ∷ []) ≡ refused_one
unfolding output refused_sheet decimal sheet_checks wrong_size wrong_version wrong_counts wrong_pairs wrong_start_places wrong_start_bonds
output-one-byte = refl
