-- A net with a step that breaks a bond (02, T-07), and what section 4.1 says of it: enabled and fired where chapter 3 does not
-- follow, put together again by taking back; a step that 21(2) alone refuses; and two firings with a common moved base that
-- Definition 9 does not relate. Assumes nothing.
use mathlib.Core.Path.{◌≡◌, refl, sym, ◌∙◌, ap, subst}
use mathlib.Core.Logic.{inl, inr}
use mathlib.Core.Bool.{true, false}
use mathlib.Core.List.{List, [], ◌∷◌}
use Prim.Native.Nat.{ℕ, ◌≤◌}
use native.Mathlib.Omega.{arith}
use lib.Dec.{eqb}
use Rattle.causal.specs.Lists.{Mem}
use Rattle.causal.proofs.Tests.{both}
use Rattle.net.specs.Net.{Net, arcs_of}
use Rattle.net.specs.Net as W
use Rattle.net.specs.Rules.{net_rule}
use Rattle.net.specs.Firing.{in_set}
use Rattle.net.specs.Journal.{LiveLine, Journal, transition, key, begin, play}
use Rattle.net.specs.Cases.{entry, arcs, marking, fire_of}
use Rattle.net.specs.declared.Bond.{Bond}
use Rattle.net.specs.declared.Entry.{Entry}
use Rattle.net.specs.declared.Transition.{Transition}
use Rattle.net.proofs.Keys.{key_of}
use Rattle.published.specs.Sets.{base, bond, Max}
use Rattle.published.specs.Nets.{PetriNet, WellFormed}
use Rattle.published.specs.States.{Marks}
use Rattle.published.specs.Forward.{Enabled, fired_marks}
use Rattle.published.specs.Causal.{Order, no_order, CausalEnabled}
use Rattle.published.specs.Uncoupling.{Enabled7, Separate, Enabled21, fired22, reversed24}
use Rattle.published.specs.Sheets.{breaks_nothing, petri_net, marks_of, history_of, order_after, later_with_entry, later_with_common}
use Rattle.published.specs.Claims.{Published}
use Rattle.published.specs.Uncouples.{Uncouples}
use Rattle.published.proofs.Claims.{published}

-- Bases 0 and 1 at place 0, bonded. Transition 0 takes base 0 and puts it back; 1 takes both with their bond, and puts base 0
-- in place 1, base 1 in place 0, and no bond; 2 takes base 1 and puts it back; 3 takes both to place 1 and names no bond.
abbrev clutch : Net
clutch = record {
  places = 2;
  bases = 2;
  transitions =
      arcs (entry 0 0 0 ∷ []) [] []
      ∷ arcs (entry 0 0 1 ∷ entry 1 0 0 ∷ []) (W.bond 0 1 ∷ []) []
      ∷ arcs (entry 1 0 0 ∷ []) [] []
      ∷ arcs (entry 0 0 1 ∷ entry 1 0 1 ∷ []) [] []
      ∷ [];
  start = marking (0 ∷ 0 ∷ []) (W.bond 0 1 ∷ []);
}

abbrev N : PetriNet
N = petri_net clutch

abbrev joint : Bond
joint = W.bond 0 1

clutch-rule : net_rule clutch ≡ true
clutch-rule = refl

shown : Published clutch
shown = published clutch clutch-rule

pub not-well-formed : WellFormed N → ⊥
not-well-formed W = both (breaks_nothing clutch) (shown.well_formed.0 W) refl

abbrev after : List (List ℕ) → Journal
after cs = play clutch cs (begin clutch)

abbrev ordered : List (List ℕ) → Order
ordered cs = order_after clutch cs (begin clutch) no_order

states : (cs : List (List ℕ)) → Uncouples clutch (play clutch cs (begin clutch)) (order_after clutch cs (begin clutch) no_order)
states = shown.states_uncouple

abbrev start : Marks
start = marks_of clutch clutch.start

-- ---- Transition 1 is enabled, and by Definition 4 it is not: its bases are connected, and go to different places.

pub enabled-1 : Enabled7 N start (transition 1)
enabled-1 = (((states []).enabled (transition 1)).0 refl).1

pub not-definition4 : Enabled N start (transition 1) → ⊥
not-definition4 D = D.apart 0 1 1 0 (tt, _, inl refl, refl, refl) (tt, _, inr (inl refl), refl, refl) (λ e. both false (ap (λ (n : ℕ). eqb n 0) e) refl) 0
    (omega arith, base 0, (tt, _, inl refl, refl, refl))
    (inr (joint ∷ [], (1, inl (refl, refl), (refl, refl), (omega arith, refl), tt), joint, inl refl, inr (inr refl)))

-- It puts base 0 in place 1, and the bond is in no place; Definition 5 would leave it.
pub moved-1 : fired22 N start (transition 1) 1 (base 0)
moved-1 = ((states []).fires (transition 1) refl 1 (base 0)).0 (omega arith, refl)

pub broken-1 : (x : ℕ) → fired22 N start (transition 1) x (bond joint) → ⊥
broken-1 x h = both false (((states []).fires (transition 1) refl x (bond joint)).1 h).0 refl

pub kept-by-definition5 : fired_marks N start (transition 1) 1 (bond joint)
kept-by-definition5 = inr (inr (0, 0, (tt, _, inl refl, refl, refl), (tt, _, inl refl, refl, refl), inr (joint ∷ [], (1, inl (refl, refl), (refl, refl), (omega arith, refl), tt), joint, inl refl, inl refl)))

-- Taking it back puts the bond in place 0 again, and base 0 with it.
abbrev uncoupled : List (List ℕ)
uncoupled = fire_of 1 ∷ []

pub mended-1 : reversed24 N (marks_of clutch (after uncoupled).marking) (transition 1) 0 (bond joint)
mended-1 = ((states uncoupled).undoes (key 1) refl 0 (bond joint)).0 (refl, refl)

pub returned-1 : reversed24 N (marks_of clutch (after uncoupled).marking) (transition 1) 0 (base 0)
returned-1 = ((states uncoupled).undoes (key 1) refl 0 (base 0)).0 (omega arith, refl)

-- ---- Transition 3 is enabled, though the bond of its bases is on no arc of it: 21(2), and so Definition 21, is not met.

pub enabled-3 : Enabled7 N start (transition 3)
enabled-3 = (((states []).enabled (transition 3)).0 refl).1

pub not-separate-3 : Separate N start (transition 3) → ⊥
not-separate-3 two = both false (two joint 0 (omega arith, base 0, (tt, _, inl refl, refl, refl)) (tt, _, inl refl, refl, refl) (tt, _, inr (inl refl), refl, refl) (refl, refl)).0 refl

pub not-definition21 : Enabled21 N start (transition 3) → ⊥
not-definition21 D = not-separate-3 D.separate

-- ---- Firings of 0, 1 and 2: the first and the third moved base 1, so that document 01 relates them; Definition 9 does not, since
-- base 0, which transition 0 puts, is no longer connected to base 1. It relates the first and the second, so that transition
-- 0 is not c-enabled, as 20 has it.

abbrev firings : List (List ℕ)
firings = fire_of 0 ∷ fire_of 1 ∷ fire_of 2 ∷ []

pub common-0-2 : later_with_common (after firings) (transition 0) 1 (transition 2) 3
common-0-2 = (_, _, inl refl, inr (inr (inl refl)), refl, refl, refl, refl, omega arith, (1, refl, refl))

pub not-related-0-2 : ordered firings (transition 0) 1 (transition 2) 3 → ⊥
not-related-0-2 r = none (((states firings).order (transition 0) 1 (transition 2) 3).0 r)
  where
    entry-0 : (e : Entry) → Mem e (entry 0 0 0 ∷ []) → e.base ≡ 0
    entry-0 e (inl q) = ap (λ (d : Entry). d.base) q
    entry-0 e (inr m) = absurd m

    -- the third line's moved base is base 1 alone
    unmoved : (h : LiveLine) → Mem h (after firings).lines → h.key.0 ≡ 3 → in_set h.moved 0 ≡ true → ⊥
    unmoved h (inl m) q w = let k = key_of m in omega arith
    unmoved h (inr (inl m)) q w = let k = key_of m in omega arith
    unmoved h (inr (inr (inl m))) q w = both false (ap (λ (x : LiveLine). in_set x.moved 0) (sym m) ∙ w) refl
    unmoved h (inr (inr (inr m))) q w = m

    none : later_with_entry clutch (after firings) (transition 0) 1 (transition 2) 3 → ⊥
    none (l, h, a, b, p, q, p', q', lt, (e, n, w)) =
        let z : e.base ≡ 0 = entry-0 e (subst (λ (t : Transition). Mem e (arcs_of clutch t).entries) p n) in
        unmoved h b q' (ap (in_set h.moved) (sym z) ∙ w)

pub related-0-1 : ordered firings (transition 0) 1 (transition 1) 2
related-0-1 = ((states firings).order (transition 0) 1 (transition 1) 2).1 (_, _, inl refl, inr (inl refl), refl, refl, refl, refl, omega arith, (_, inl refl, refl))

pub not-causal-0 : CausalEnabled N (marks_of clutch (after firings).marking) (history_of (after firings)) (ordered firings) (transition 0) → ⊥
not-causal-0 D = D.unused 1 latest (transition 1) 2 (_, inr (inl refl), refl, refl) related-0-1
  where
    other : (l : LiveLine) (n : ℕ) → eqb n 0 ≡ false → l.transition ≡ transition n → l.transition ≡ transition 0 → ⊥
    other l n k e p = both (eqb n 0) (ap (λ (t : Transition). eqb t.0 0) (sym e ∙ p)) k

    below : (k : ℕ) → history_of (after firings) (transition 0) k → k ≤ 1
    below k (l, inl m, p, q) = let a = key_of m in omega arith
    below k (l, inr (inl m), p, q) = absurd (other l 1 refl (ap (λ (x : LiveLine). x.transition) m) p)
    below k (l, inr (inr (inl m)), p, q) = absurd (other l 2 refl (ap (λ (x : LiveLine). x.transition) m) p)
    below k (l, inr (inr (inr m)), p, q) = absurd m

    latest : Max (history_of (after firings) (transition 0)) 1
    latest = ((_, inl refl, refl, refl), below)

pub causal-2 : CausalEnabled N (marks_of clutch (after firings).marking) (history_of (after firings)) (ordered firings) (transition 2)
causal-2 = (((states firings).causal (key 3) (transition 2)).0 (refl, refl)).0
