-- Document 01's marked cases, T-07's, the list of check numbers, and a case where two refusals hold: all by computation.
-- Assumes nothing.
use mathlib.Core.Path.{◌≡◌, refl}
use mathlib.Core.Bool.{true}
use mathlib.Core.List.{List, [], ◌∷◌}
use Prim.Native.Nat.{ℕ}
use Rattle.net.specs.Tests.{keep}
use Rattle.net.specs.Net.{Net, bond, arcs_of, written}
use Rattle.net.specs.Rules.{net_rule}
use Rattle.net.specs.Checks.{Check, numbers}
use Rattle.net.specs.Journal.{Journal, refused, transition, begin, act, play, checks, read_checks, fire_checks, undo_checks}
use Rattle.net.specs.Firing.{torn_with}
use Rattle.net.specs.Cases.{net_b, fire_of, marked, AllHold}
use Rattle.net.specs.Clutch.{net_c, clutch_cases}
use Rattle.net.specs.Claims.{all_new_bonds, all_broken_bonds}
use Rattle.net.specs.declared.Transition.{Transition}
use Rattle.net.specs.declared.Key.{Key}

-- M1 to M12.
pub marked-hold : AllHold net_b marked
marked-hold = (refl, (refl, (refl, (refl, (refl, (refl, (refl, (refl, (refl, (refl, (refl, (refl, tt))))))))))))

-- Sheet B's net meets the sheet's rules.
pub net_b-rule : net_rule net_b ≡ true
net_b-rule = refl

-- The cases with steps that uncouple (02, T-07), on a net that meets the rules.
pub clutch-hold : AllHold net_c clutch_cases
clutch-hold = (refl, (refl, (refl, (refl, (refl, (refl, (refl, (refl, (refl, (refl, tt))))))))))

pub net_c-rule : net_rule net_c ≡ true
net_c-rule = refl

-- net_c opens 0-1, though 16 by the couplings before the firing would refuse it.
pub torn-with-old : torn_with (arcs_of net_c (transition 1)) (play net_c (fire_of 0 ∷ []) (begin net_c)).marking.bonds ≡ true
torn-with-old = refl

-- Its transition 3 breaks one bond and makes one: so the totals count them.
pub three-broke : all_broken_bonds net_c (play net_c (fire_of 3 ∷ []) (begin net_c)).lines ≡ 1
three-broke = refl

pub three_made : all_new_bonds net_c (play net_c (fire_of 3 ∷ []) (begin net_c)).lines ≡ 1
three_made = refl

-- The bonds that sheet B writes: the start's, then those of transitions 0, 4 and 5, whose one bond stands on both sides.
pub written-B : written net_b ≡ bond 2 3 ∷ bond 0 2 ∷ bond 2 3 ∷ bond 0 1 ∷ bond 0 1 ∷ []
written-B = refl

-- The refusals of a command, in checking order.
pub read-numbers : (c : List ℕ) → numbers (read_checks c) ≡ 21 ∷ 11 ∷ []
read-numbers c = refl

pub fire-numbers : (net : Net) (j : Journal) (t : Transition) → numbers (fire_checks net j t) ≡ 12 ∷ 13 ∷ 14 ∷ 15 ∷ 16 ∷ 17 ∷ 18 ∷ []
fire-numbers net j t = refl

pub undo-numbers : (j : Journal) (k : Key) → numbers (undo_checks j k) ≡ 19 ∷ 20 ∷ []
undo-numbers j k = refl

-- After M2, firing 5 meets 13 and 14; the earlier is answered.
abbrev after_m2 : Journal
after_m2 = play net_b (fire_of 0 ∷ fire_of 1 ∷ []) (begin net_b)

pub two-hold : numbers (keep (λ (c : Check). c.holds) (checks net_b after_m2 (fire_of 5))) ≡ 13 ∷ 14 ∷ []
two-hold = refl

pub earlier-answered : (act net_b after_m2 (fire_of 5)).answer ≡ refused 13
earlier-answered = refl
