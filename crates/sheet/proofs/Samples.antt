-- Document 01's sheets A and B are accepted, B's bytes describe the net on which its marked cases are proved, and three
-- damaged sheets are refused: by computation. Assumes nothing.
use mathlib.Core.Path.{◌≡◌, refl}
use lib.ListN.{set}
use Rattle.net.specs.Cases.{net_b}
use Rattle.format.specs.Parts.{part_of, transition_bytes}
use Rattle.format.specs.NetOf.{net_of}
use Rattle.sheet_head.specs.Conditions.{wrong_size, wrong_version, wrong_counts, wrong_pairs, wrong_start_places, wrong_start_bonds}
use Rattle.sheet_arcs.specs.Conditions.{wrong_width, wrong_entries}
use Rattle.sheet_bonds.specs.Conditions.{wrong_bonds}
use Rattle.sheet.specs.Checks.{sheet_checks, checked}
use Rattle.sheet.specs.Promises.{Promised}
use Rattle.sheet.specs.Samples.{sheet_a, sheet_b}
use Rattle.net.specs.declared.Verdict.TheVariants.{Accepted, Refused}
use Rattle.sheet.proofs.Accepted.{accepted-promised}

pub sheet_a-accepted : checked sheet_a ≡ Accepted
unfolding checked sheet_checks wrong_size wrong_version wrong_counts wrong_pairs wrong_start_places wrong_start_bonds wrong_width wrong_entries wrong_bonds part_of transition_bytes
sheet_a-accepted = refl

pub sheet_b-accepted : checked sheet_b ≡ Accepted
unfolding checked sheet_checks wrong_size wrong_version wrong_counts wrong_pairs wrong_start_places wrong_start_bonds wrong_width wrong_entries wrong_bonds part_of transition_bytes
sheet_b-accepted = refl

pub sheet_b-net : net_of sheet_b ≡ net_b
unfolding net_of part_of transition_bytes
sheet_b-net = refl

-- So the promises of acceptance hold of A and B.
pub sheet_a-promised : Promised sheet_a
sheet_a-promised = accepted-promised sheet_a sheet_a-accepted

pub sheet_b-promised : Promised sheet_b
sheet_b-promised = accepted-promised sheet_b sheet_b-accepted

-- Sheet B with start couplings of 65,530 bytes at 40, and step 0 at 34: the sum does not wrap.
pub sum-of-whole-numbers : checked (set (set (set (set sheet_b 10 250) 11 255) 12 34) 14 19) ≡ Refused 4
unfolding checked sheet_checks wrong_size wrong_version wrong_counts wrong_pairs wrong_start_places wrong_start_bonds wrong_width wrong_entries wrong_bonds part_of transition_bytes
sum-of-whole-numbers = refl

-- Sheet A with 9 of step 0 and 7 of step 1; with 8 and 9 of step 0.
pub earlier-step-first : checked (set (set sheet_a 33 2) 34 0) ≡ Refused 9
unfolding checked sheet_checks wrong_size wrong_version wrong_counts wrong_pairs wrong_start_places wrong_start_bonds wrong_width wrong_entries wrong_bonds part_of transition_bytes
earlier-step-first = refl

pub entries-first : checked (set (set sheet_a 25 2) 33 2) ≡ Refused 8
unfolding checked sheet_checks wrong_size wrong_version wrong_counts wrong_pairs wrong_start_places wrong_start_bonds wrong_width wrong_entries wrong_bonds part_of transition_bytes
entries-first = refl
