-- What is promised of an accepted sheet (specs/Promises): where no check holds, the net that the sheet describes keeps all of
-- the sheet's rules, the limits hold, and every number in it is within its count. Assumes nothing.
use mathlib.Core.Path.{◌≡◌, refl, sym, ◌∙◌}
use mathlib.Core.Bool.{Bool, true, false, not, ◌||◌}
use mathlib.Core.List.{List, ◌++◌}
use Prim.Native.Nat.{ℕ, zero, suc, ◌+◌, ◌%◌, ◌<◌, ◌≤◌}
use native.Mathlib.Omega.{arith}
use native.Mathlib.Nat.{le_of_suc-le-suc, not-suc-le-zero}
use lib.Dec.{eqb, ltb}
use lib.ListN.{length, get_or}
use borrow.Author.Tests.{ltb-true, ltb-false, eqb-true, not-true, not-false}
use Rattle.causal.specs.Lists.{Mem}
use Rattle.net.specs.Limits.{max_sheet, max_places, max_bases, max_transitions}
use Rattle.net.specs.Tests.{pick, all, table}
use Rattle.net.specs.Sorted.{ascends}
use Rattle.net.specs.Net.{less_bond, place}
use Rattle.net.specs.Rules.{start_places_rule, start_bond_rule, start_bonds_rule, arcs_rule, net_rule}
use Rattle.net.specs.Checks.{Check, check, clear, first}
use Rattle.net.specs.Journal.{transition}
use Rattle.net.specs.declared.Bond.{Bond}
use Rattle.net.specs.declared.Transition.{Transition}
use Rattle.net.proofs.Tests.{and_l, and_r, or-no-l, or-no-r, all-e, all-at, all_append}
use Rattle.format.specs.Bytes.{outside, header_width, bond_width}
use Rattle.format.specs.Parts.{places_of, bases_of, transitions_of, pairs_of, start_places, start_bonds, transition_bytes}
use Rattle.format.specs.NetOf.{start_marking, net_of}
use Rattle.sheet_head.specs.Conditions.{wrong_size, wrong_counts, parts_begin, follow, wrong_pairs, wrong_start_places, wrong_start_bonds}
use Rattle.sheet.specs.Checks.{head_checks, transition_checks, checks_from, sheet_checks, checked}
use Rattle.sheet.specs.Promises.{BondWithin, arcs_at, GoodArcs, Promised}
use Rattle.net.specs.declared.Verdict.TheVariants.{Accepted, Refused}
use Rattle.sheet.proofs.Written.{written-bytes}
use Rattle.sheet.proofs.Arcs.{within, all-table, arcs-rule, good-arcs}

abbrev off : Check → Bool
off c = not c.holds

-- none holds in two lists, one after the other
clear-l : (cs ds : List Check) → clear (cs ++ ds) ≡ true → clear cs ≡ true
clear-l cs ds h = and_l (clear cs) (clear ds) (sym (all_append off cs ds) ∙ h)

clear-r : (cs ds : List Check) → clear (cs ++ ds) ≡ true → clear ds ≡ true
clear-r cs ds h = and_r (clear cs) (clear ds) (sym (all_append off cs ds) ∙ h)

-- none of the checks of a transition holds
from-clear : (s : List ℕ) (k n j : ℕ) → clear (checks_from s k n) ≡ true → j < n → clear (transition_checks s (transition (k + j))) ≡ true
from-clear s k zero j h i = absurd (not-suc-le-zero i)
from-clear s k (suc n) zero h i =
    let e : k + 0 ≡ k = omega arith in
    rw e (clear-l (transition_checks s (transition k)) (checks_from s (k + 1) n) h)
from-clear s k (suc n) (suc j) h i =
    let e : k + suc j ≡ k + 1 + j = omega arith in
    rw e (from-clear s (k + 1) n j (clear-r (transition_checks s (transition k)) (checks_from s (k + 1) n) h) (le_of_suc-le-suc i))

module _ (s : List ℕ) (h : clear (sheet_checks s) ≡ true) where
  head : clear (head_checks s) ≡ true
  unfolding sheet_checks
  head = clear-l (head_checks s) (checks_from s 0 (transitions_of s)) h

  tail : clear (checks_from s 0 (transitions_of s)) ≡ true
  unfolding sheet_checks
  tail = clear-r (head_checks s) (checks_from s 0 (transitions_of s)) h

  -- of the head's checks, the one at i
  pub head_at : (i : ℕ) → i < 6 → (get_or (head_checks s) i (check 0 false)).holds ≡ false
  head_at i k = not-true _ (all-at off (head_checks s) (check 0 false) i head k)

  pub at-transition : (t : Transition) (i : ℕ) → t.0 < transitions_of s → i < 3 → (get_or (transition_checks s t) i (check 0 false)).holds ≡ false
  at-transition t i j d =
      let z : 0 + t.0 ≡ t.0 = omega arith in
      let e : clear (transition_checks s t) ≡ true = rw z at (from-clear s 0 (transitions_of s) t.0 tail j) in
      not-true _ (all-at off (transition_checks s t) (check 0 false) i e d)

  -- ---- the start

  start-places : start_places_rule (places_of s) (bases_of s) (start_places s) ≡ true
  unfolding wrong_start_places
  start-places = not-false _ (head_at 4 (omega arith))

  start-size : length (start_places s) ≡ bases_of s
  start-size = eqb-true (length (start_places s)) (bases_of s) (and_l (eqb (length (start_places s)) (bases_of s)) _ start-places)

  start-place : (p : ℕ) → p < bases_of s → place (start_marking s) p < places_of s
  start-place p i =
      let j : p < length (start_places s) = rw start-size i in
      ltb-true (place (start_marking s) p) (places_of s) (all-at _ (start_places s) 0 p (and_r (eqb (length (start_places s)) (bases_of s)) _ start-places) j)

  start-bonds : start_bonds_rule (bases_of s) (start_marking s) ≡ true
  unfolding wrong_start_bonds
  start-bonds = not-false _ (or-no-r (not (eqb (length (start_bonds s) % bond_width) 0)) _ (head_at 5 (omega arith)))

  start-bond : (b : Bond) → Mem b (start_marking s).bonds → BondWithin (bases_of s) b
  start-bond b m =
      let r : start_bond_rule (bases_of s) (start_marking s) b ≡ true = all-e _ (start_marking s).bonds (and_r (ascends less_bond (start_marking s).bonds) _ start-bonds) b m in (
        ltb-true b.lo b.hi (and_l (ltb b.lo b.hi) _ r),
        ltb-true b.hi (bases_of s) (and_l (ltb b.hi (bases_of s)) _ (and_r (ltb b.lo b.hi) _ r)),
      )

  -- ---- the transitions

  arcs-good : (t : Transition) → t.0 < transitions_of s → GoodArcs (places_of s) (bases_of s) (arcs_at s t)
  arcs-good t i =
      good-arcs (places_of s) (bases_of s) (transition_bytes s t) (at-transition t 0 i (omega arith)) (at-transition t 1 i (omega arith)) (at-transition t 2 i (omega arith))

  all-arcs : all (arcs_rule (places_of s) (bases_of s)) (table (transitions_of s) (λ k. arcs_at s (transition k))) ≡ true
  all-arcs = all-table (arcs_rule (places_of s) (bases_of s)) (transitions_of s) (λ k. arcs_at s (transition k)) (λ k i.
      arcs-rule (places_of s) (bases_of s) (transition_bytes s (transition k)) (at-transition (transition k) 0 i (omega arith)) (at-transition (transition k) 1 i (omega arith)) (at-transition (transition k) 2 i (omega arith)))

  -- An accepted sheet's net keeps the sheet's rules.
  pub net-rule : net_rule (net_of s) ≡ true
  unfolding net_of
  net-rule = rw (start-places, start-bonds, all-arcs)

  counts : (outside (places_of s) max_places || (outside (bases_of s) max_bases || outside (transitions_of s) max_transitions)) ≡ false
  unfolding wrong_counts
  counts = head_at 2 (omega arith)

  rest : (outside (bases_of s) max_bases || outside (transitions_of s) max_transitions) ≡ false
  rest = or-no-r (outside (places_of s) max_places) _ counts

  small : length s ≤ max_sheet
  unfolding wrong_size
  small = ltb-false max_sheet (length s) (or-no-r (ltb (length s) header_width) _ (head_at 0 (omega arith)))

  pairs : follow s (parts_begin s) 0 (pairs_of s) ≡ true
  unfolding wrong_pairs
  pairs = not-false _ (or-no-r (ltb (length s) (parts_begin s)) _ (head_at 3 (omega arith)))

  -- What is promised of a sheet of which no check holds.
  pub promised : Promised s
  promised = record {
    rule = net-rule;
    size = small;
    places = within (places_of s) max_places (or-no-l (outside (places_of s) max_places) _ counts);
    bases = within (bases_of s) max_bases (or-no-l (outside (bases_of s) max_bases) _ rest);
    transitions = within (transitions_of s) max_transitions (or-no-r (outside (bases_of s) max_bases) _ rest);
    bonds = written-bytes s pairs (λ t i. at-transition t 0 i (omega arith));
    start_size = start-size;
    start_place = start-place;
    start_order = and_l (ascends less_bond (start_marking s).bonds) _ start-bonds;
    start_bond = start-bond;
    arcs = arcs-good;
  }

-- ---- by the answer

pub clear_of : (b : Bool) (n : ℕ) → pick b Accepted (Refused n) ≡ Accepted → b ≡ true
clear_of true n e = refl
clear_of false n e = absurd (let z : ◌≡◌ {A = ℕ} 0 1 = cc in let f : ⊥ = omega arith in f)

-- A sheet that is answered `Accepted` keeps the promises.
pub accepted-promised : (s : List ℕ) → checked s ≡ Accepted → Promised s
unfolding checked
accepted-promised s e = promised s (clear_of (clear (sheet_checks s)) (first (sheet_checks s)) e)
