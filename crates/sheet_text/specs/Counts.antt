-- What decides whether a line may stand where it does: `places` was given, and how many parts and steps; the first mistake.
-- Definitions only.
use Rattle.std.specs.Prelude.{Bool, true, false, not, ◌&&◌, ℕ, ◌+◌, eqb}
use Rattle.sheet_text.specs.Reading.{Reading, understood, mistake}
use Rattle.sheet_text.specs.declared.Line.{Line}
use Rattle.sheet_text.specs.declared.Line.TheVariants.{Blank, Places, Part, Coupled, Step, Move, Before, After, Wrong}
use Rattle.sheet_text.specs.declared.Counts.{Counts}
use Rattle.sheet_text.specs.declared.Mistake.{Mistake}

-- as `admits` of Reading, by the three alone
abbrev pub admits_by : Bool → ℕ → ℕ → Line → Bool
admits_by told parts steps Blank = true
admits_by told parts steps (Places n) = not told && eqb steps 0
admits_by told parts steps (Part p x) = eqb p parts && eqb steps 0
admits_by told parts steps (Coupled p q) = eqb steps 0
admits_by told parts steps (Step k) = eqb k steps
admits_by told parts steps (Move p i o) = not (eqb steps 0)
admits_by told parts steps (Before p q) = not (eqb steps 0)
admits_by told parts steps (After p q) = not (eqb steps 0)
admits_by told parts steps Wrong = false

abbrev pub counts : Bool → ℕ → ℕ → Counts
counts told parts steps = record { told = told; parts = parts; steps = steps }

abbrev pub counts_after : Bool → ℕ → ℕ → Line → Counts
counts_after told parts steps Blank = counts told parts steps
counts_after told parts steps (Places n) = counts true parts steps
counts_after told parts steps (Part p x) = counts told (parts + 1) steps
counts_after told parts steps (Coupled p q) = counts told parts steps
counts_after told parts steps (Step k) = counts told parts (steps + 1)
counts_after told parts steps (Move p i o) = counts told parts steps
counts_after told parts steps (Before p q) = counts told parts steps
counts_after told parts steps (After p q) = counts told parts steps
counts_after told parts steps Wrong = counts told parts steps

-- the number of a line, and what the line is
abbrev pub at_line : ℕ → Line → Mistake
at_line k l = record { line = k; what = l }

-- the first mistake; 0 and `Blank` where a text is understood
abbrev pub mistake_in : Reading → Mistake
mistake_in (understood net) = at_line 0 Blank
mistake_in (mistake k l) = at_line k l
