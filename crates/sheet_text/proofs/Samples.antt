-- Sheet B as a person writes it is the net of document 01's sheet B and gives its bytes; sheet A's printed text; mistakes.
-- Assumes nothing: all by computation.
use mathlib.Core.Path.{◌≡◌, refl}
use Rattle.net.specs.Cases.{net_b}
use Rattle.format.specs.Parts.{part_of, transition_bytes}
use Rattle.format.specs.NetOf.{net_of}
use Rattle.sheet.specs.Samples.{sheet_a, sheet_b}
use Rattle.text.specs.Ascii.{ascii}
use Rattle.text.specs.Decimal.{decimal}
use Rattle.lexing.specs.Tokens.{next_of, lines_of}
use Rattle.lexing.specs.Printed.{text_of}
use Rattle.encode.specs.Encoding.{bytes_of}
use Rattle.sheet_text.specs.declared.Line.TheVariants.{Places, Step, Wrong}
use Rattle.sheet_text.specs.Lines.{line_of, step_line_of}
use Rattle.sheet_text.specs.Reading.{understood, mistake, read_text, net_text}

pub text_b : read_text (ascii "# sheet B\nplaces 3\npart 0 at 0\npart 1 at 0\npart 2 at 0\npart 3 at 0\ncoupled 2-3\n\nstep 0\n  move 0 from 0 to 1\n  move 2 from 0 to 1\n  after 0-2\nstep 1\n  move 3 from 1 to 2\nstep 2\n  move 1 from 0 to 0\nstep 3\n  move 2 from 0 to 1\n  move 3 from 0 to 2\nstep 4\n  move 2 from 0 to 0\n  move 3 from 0 to 0\n  after 2-3   # only after\nstep 5\n  move 0 from 0 to 0\n  move 1 from 0 to 0\n  before 0-1\n  after 0-1\n") ≡ understood net_b
unfolding read_text lines_of next_of line_of step_line_of
text_b = refl

pub bytes_b : bytes_of net_b ≡ sheet_b
unfolding bytes_of
bytes_b = refl

pub text_a : net_text (net_of sheet_a) ≡ ascii "places 2\npart 0 at 0\npart 1 at 0\npart 2 at 0\nstep 0\nmove 0 from 0 to 1\nmove 1 from 0 to 1\nafter 0 1\nstep 1\nmove 2 from 0 to 1\n"
unfolding net_text net_of part_of transition_bytes text_of decimal
text_a = refl

-- ---- the line of the first mistake

-- a word that is not known, a step out of its turn
pub unknown-word : read_text (ascii "places 2\npart 0 at 0\nparts 1 at 0\n") ≡ mistake 3 Wrong
unfolding read_text lines_of next_of line_of step_line_of
unknown-word = refl

pub out-of-turn : read_text (ascii "places 2\npart 0 at 0\nstep 1\n") ≡ mistake 3 (Step 1)
unfolding read_text lines_of next_of line_of step_line_of
out-of-turn = refl

-- a word and a number with no blank between them
pub word-runs-on : read_text (ascii "places 2\npart0 at 0\n") ≡ mistake 2 Wrong
unfolding read_text lines_of next_of line_of step_line_of
word-runs-on = refl

pub number-runs-on : read_text (ascii "places 2\npart 0at 0\n") ≡ mistake 2 Wrong
unfolding read_text lines_of next_of line_of step_line_of
number-runs-on = refl

-- `places` given twice, also behind `places 0`
pub places-again : read_text (ascii "places 2\npart 0 at 0\nplaces 2\n") ≡ mistake 3 (Places 2)
unfolding read_text lines_of next_of line_of step_line_of
places-again = refl

pub places-after-none : read_text (ascii "places 0\nplaces 2\n") ≡ mistake 2 (Places 2)
unfolding read_text lines_of next_of line_of step_line_of
places-after-none = refl

-- `places` behind a step
pub places-late : read_text (ascii "part 0 at 0\nstep 0\nplaces 2\n") ≡ mistake 3 (Places 2)
unfolding read_text lines_of next_of line_of step_line_of
places-late = refl

-- a sign, a hyphen with a blank beside it, a hyphen behind a word, a comma
pub sign : read_text (ascii "places 2\npart 0 at -1\n") ≡ mistake 2 Wrong
unfolding read_text lines_of next_of line_of step_line_of
sign = refl

pub loose-hyphen : read_text (ascii "places 2\ncoupled 2 -3\n") ≡ mistake 2 Wrong
unfolding read_text lines_of next_of line_of step_line_of
loose-hyphen = refl

pub hyphen-behind-word : read_text (ascii "places 2\ncoupled-2-3\n") ≡ mistake 2 Wrong
unfolding read_text lines_of next_of line_of step_line_of
hyphen-behind-word = refl

pub comma : read_text (ascii "places 2\ncoupled 2,3\n") ≡ mistake 2 Wrong
unfolding read_text lines_of next_of line_of step_line_of
comma = refl

-- a number that is no byte, one that 16 bits do not hold, one that 64 bits do not hold
pub no_byte : read_text (ascii "places 256\n") ≡ mistake 1 Wrong
unfolding read_text lines_of next_of line_of step_line_of
no_byte = refl

pub no_word : read_text (ascii "places 65537\n") ≡ mistake 1 Wrong
unfolding read_text lines_of next_of line_of step_line_of
no_word = refl

pub no_number : read_text (ascii "places 18446744073709551617\n") ≡ mistake 1 Wrong
unfolding read_text lines_of next_of line_of step_line_of
no_number = refl
