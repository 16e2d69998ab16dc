-- The checks of a sheet in checking order (01, the turned-away list, 1 to 9), and the answer to a sheet.
-- Definitions only. The conditions are those of sheet_head (1 to 6), sheet_arcs (7, 8) and sheet_bonds (9).
use Rattle.std.specs.Prelude.{ℕ, zero, suc, ◌+◌, List, [], ◌∷◌, ◌++◌, Option, Some, None}
use Rattle.net.specs.Tests.{pick}
use Rattle.net.specs.Checks.{Check, check, clear, first}
use Rattle.net.specs.Journal.{transition}
use Rattle.net.specs.declared.Transition.{Transition}
use Rattle.format.specs.Parts.{places_of, bases_of, transitions_of, transition_bytes}
use Rattle.sheet_head.specs.Conditions.{wrong_size, wrong_version, wrong_counts, wrong_pairs, wrong_start_places, wrong_start_bonds}
use Rattle.sheet_arcs.specs.Conditions.{wrong_width, wrong_entries}
use Rattle.sheet_bonds.specs.Conditions.{wrong_bonds}
use Rattle.net.specs.declared.Verdict.{Verdict}
use Rattle.net.specs.declared.Verdict.TheVariants.{Accepted, Refused}

-- the number of the first that holds
abbrev pub refusal : List Check → Option ℕ
refusal [] = None
refusal (c ∷ cs) = pick c.holds (Some c.number) (refusal cs)

-- what is checked before any transition
abbrev pub head_checks : List ℕ → List Check
head_checks s =
    check 1 (wrong_size s)
    ∷ check 2 (wrong_version s)
    ∷ check 3 (wrong_counts s)
    ∷ check 4 (wrong_pairs s)
    ∷ check 5 (wrong_start_places s)
    ∷ check 6 (wrong_start_bonds s)
    ∷ []

-- what is checked of a transition
abbrev pub transition_checks : List ℕ → Transition → List Check
transition_checks s t =
    check 7 (wrong_width (transition_bytes s t))
    ∷ check 8 (wrong_entries (places_of s) (bases_of s) (transition_bytes s t))
    ∷ check 9 (wrong_bonds (transition_bytes s t))
    ∷ []

-- the same of n transitions from k on: all of one before the next
abbrev pub checks_from : List ℕ → ℕ → ℕ → List Check
checks_from s k zero = []
checks_from s k (suc n) = transition_checks s (transition k) ++ checks_from s (k + 1) n

unfoldable pub sheet_checks : List ℕ → List Check
sheet_checks s = head_checks s ++ checks_from s 0 (transitions_of s)

-- The answer to a sheet: accepted where no check holds, else refused with the number of the first that does.
unfoldable pub checked : List ℕ → Verdict
checked s = pick (clear (sheet_checks s)) Accepted (Refused (first (sheet_checks s)))
