-- Document 01's marked cases on sheet B that are refused: the reason of each, by computation.
-- Assumes nothing.
use mathlib.Core.Path.{◌≡◌, ◌∙◌, ap}
use mathlib.Core.Bool.{true}
use mathlib.Core.List.{List, [], ◌∷◌}
use Prim.Native.Nat.{ℕ}
use Rattle.net.specs.Checks.{clear, first}
use Rattle.net.specs.Net.{Net, bond}
use Rattle.net.specs.Journal.{key, begin, play, checks}
use Rattle.net.specs.Cases.{net_b, entry, fire_of, undo_last, undo_of}
use Rattle.sheet.specs.Checks.{sheet_checks, checked}
use Rattle.sheet.specs.Samples.{sheet_b}
use Rattle.sheet.proofs.Accepted.{clear_of}
use Rattle.sheet.proofs.Samples.{sheet_b-accepted, sheet_b-net}
use Rattle.tally.specs.declared.Tally.{Tally}
use Rattle.session.specs.Commands.{fresh_of}
use Rattle.session.specs.Runs.{run_of}
use Rattle.why.specs.Why.{reason_for, why_of}
use Rattle.why.specs.declared.Reason.{Reason}
use Rattle.why.proofs.Answers.{why-session}

accepted : clear (sheet_checks sheet_b) ≡ true
unfolding checked
accepted = clear_of (clear (sheet_checks sheet_b)) (first (sheet_checks sheet_b)) sheet_b-accepted

-- the reason of a command after commands on a fresh record of sheet B, and of the net that the sheet describes
abbrev why_b : List (List ℕ) → Tally → List ℕ → Reason
why_b cs t c = why_of sheet_b (run_of sheet_b cs (fresh_of sheet_b) t).session c

abbrev reason_b : Net → List (List ℕ) → List ℕ → Reason
reason_b net cs c = reason_for net (play net cs (begin net)) c (first (checks net (play net cs (begin net)) c))

on-net : (cs : List (List ℕ)) (t : Tally) (c : List ℕ) → why_b cs t c ≡ reason_b net_b cs c
on-net cs t c = why-session sheet_b accepted cs t c ∙ ap (λ (n : Net). reason_b n cs c) sheet_b-net

-- M7: part 3 is at 0, the step takes it from 1
pub why-M7 : (t : Tally) → why_b [] t (fire_of 1) ≡ Reason.Away (entry 3 1 2) 0
unfolding reason_for
why-M7 t = on-net [] t (fire_of 1)

-- M8: the in-coupling 0-1 is not there
pub why-M8 : (t : Tally) → why_b [] t (fire_of 5) ≡ Reason.Absent (bond 0 1)
unfolding reason_for
why-M8 t = on-net [] t (fire_of 5)

-- M9: the out-coupling 2-3 is there already
pub why-M9 : (t : Tally) → why_b [] t (fire_of 4) ≡ Reason.Present (bond 2 3)
unfolding reason_for
why-M9 t = on-net [] t (fire_of 4)

-- M10: parts 2 and 3 are connected, and would go to 1 and to 2
pub why-M10 : (t : Tally) → why_b [] t (fire_of 3) ≡ Reason.Torn (entry 2 0 1) (entry 3 0 2)
unfolding reason_for
why-M10 t = on-net [] t (fire_of 3)

-- M11: the sheet has 6 steps. M12: no firing is live
pub why-M11 : (t : Tally) → why_b [] t (fire_of 6) ≡ Reason.Steps 6
unfolding reason_for
why-M11 t = on-net [] t (fire_of 6)

pub why-M12 : (t : Tally) → why_b [] t undo_last ≡ Reason.NoneLive
unfolding reason_for
why-M12 t = on-net [] t undo_last

-- M3: firing 2 came later, and moved part 0 too
pub why-M3 : (t : Tally) → why_b (fire_of 0 ∷ fire_of 1 ∷ []) t (undo_of 1) ≡ Reason.Later (key 2) 0
unfolding reason_for
why-M3 t = on-net (fire_of 0 ∷ fire_of 1 ∷ []) t (undo_of 1)

-- M1 would not be refused
pub why-M1 : (t : Tally) → why_b [] t (fire_of 0) ≡ Reason.Nothing
unfolding reason_for
why-M1 t = on-net [] t (fire_of 0)
