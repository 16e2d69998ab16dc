-- Acts say the net that the lines fold to: one line more is one act more in one list of the net.
-- Assumes nothing.
use mathlib.Core.Path.{◌≡◌, sym, ap, ◌∙◌}
use mathlib.Core.Bool.{true, false, not}
use Prim.Native.Nat.{ℕ, zero, suc, ◌+◌, ◌*◌, ◌<◌, ◌≤◌}
use native.Mathlib.Omega.{arith}
use native.Mathlib.Numerals.{add-one}
use mathlib.Core.List.{List, [], ◌∷◌, ◌++◌, map, map-append, append-nil}
use lib.Dec.{eqb}
use lib.ListN.{length, length-append}
use borrow.Author.Tests.{eq-eqb, ne_eqb}
use Rattle.net.specs.Tests.{table}
use Rattle.net.specs.Net.{Arcs, bond, no_arcs}
use Rattle.net.proofs.Tables.{table-cong, table-snoc, table_more}
use Rattle.lexing.proofs.Items.{never}
use Rattle.sheet_text.specs.Reading.{draft, none, on_last, arcs, in_step, added}
use Rattle.sheet_text.specs.declared.Line.TheVariants.{Part, Coupled, Step, Move, Before, After}
use Rattle.sheet_text.proofs.NetBack.{last}
use Rattle.sheet_draft.specs.Acts.{act_of, tag_of, first_of, second_of, third_of, of_tag, bond_of, entry_of, part_tag, coupled_tag, move_tag, before_tag, after_tag, places_in, bonds_at, entries_at, step_in, net_in}
use Rattle.sheet_draft.proofs.Tagged.{of-append}

-- ---- an act says what it was made of

module _ (t p q r : ℕ) (a : p ≤ 255) (b : q ≤ 255) (c : r ≤ 255) where
  pub tag_back : tag_of (act_of t p q r) ≡ t
  tag_back = omega arith

  first_back : first_of (act_of t p q r) ≡ p
  first_back = omega arith

  second_back : second_of (act_of t p q r) ≡ q
  second_back = omega arith

  third_back : third_of (act_of t p q r) ≡ r
  third_back = omega arith

  bond-back : bond_of (act_of t p q r) ≡ bond p q
  bond-back = λ i. bond (first_back i) (second_back i)

  entry-back : entry_of (act_of t p q r) ≡ record { base = p; from = q; to = r }
  entry-back = λ i. record { base = first_back i; from = second_back i; to = third_back i }

-- ---- one act more in the list of its tag

module _ {X : Type 0} (f : ℕ → X) (t : ℕ) (A : List ℕ) (w : ℕ) where
  mapped-more : (y : X) → tag_of w ≡ t → f w ≡ y → map f (of_tag t (A ++ (w ∷ []))) ≡ map f (of_tag t A) ++ (y ∷ [])
  mapped-more y e d =
      let here : of_tag t (w ∷ []) ≡ w ∷ [] = rw (eq-eqb (tag_of w) t e) in
      ap (map f) (of-append t A (w ∷ []) ∙ ap (λ (l : List ℕ). of_tag t A ++ l) here) ∙ map-append f (of_tag t A) (w ∷ []) ∙ ap (λ (z : X). map f (of_tag t A) ++ (z ∷ [])) d

  mapped-other : (tag_of w ≡ t → ⊥) → map f (of_tag t (A ++ (w ∷ []))) ≡ map f (of_tag t A)
  mapped-other n =
      let here : of_tag t (w ∷ []) ≡ [] = rw (ne_eqb (tag_of w) t n) in
      ap (map f) (of-append t A (w ∷ []) ∙ ap (λ (l : List ℕ). of_tag t A ++ l) here ∙ append-nil (of_tag t A))

-- no act has a tag from b on
abbrev pub Below : ℕ → List ℕ → Type 0
Below b A = (t : ℕ) → b ≤ t → of_tag t A ≡ []

pub below_more : (b : ℕ) (A : List ℕ) (w : ℕ) → tag_of w < b → Below b A → Below b (A ++ (w ∷ []))
below_more b A w h k t l =
    let n : eqb (tag_of w) t ≡ false = ne_eqb (tag_of w) t (λ e. omega arith) in
    of-append t A (w ∷ []) ∙ rw (k t l, n)

-- ---- the steps

other_step : (A : List ℕ) (w k : ℕ) → (tag_of w ≡ move_tag k → ⊥) → (tag_of w ≡ before_tag k → ⊥) → (tag_of w ≡ after_tag k → ⊥) → step_in (A ++ (w ∷ [])) k ≡ step_in A k
other_step A w k p q r = λ i. arcs (mapped-other entry_of (move_tag k) A w p i) (mapped-other bond_of (before_tag k) A w q i) (mapped-other bond_of (after_tag k) A w r i)

-- an act of the start leaves the steps
start-act : (S : ℕ) (A : List ℕ) (w : ℕ) → tag_of w < 3 → table S (step_in A) ≡ table S (step_in (A ++ (w ∷ [])))
start-act S A w h = table-cong S (step_in A) (step_in (A ++ (w ∷ []))) (λ k l. sym (other_step A w k (λ e. omega arith) (λ e. omega arith) (λ e. omega arith)))

last-table : (f : Arcs → Arcs) (m : ℕ) (g h : ℕ → Arcs) → ((k : ℕ) → k < m → g k ≡ h k) → f (g m) ≡ h m → on_last f (table (suc m) g) ≡ table (suc m) h
last-table f m g h p q =
    ap (on_last f) (table-snoc m g) ∙ last f (table m g) (g m)
    ∙ (λ i. table-cong m g h p i ++ (q i ∷ [])) ∙ sym (table-snoc m h)

-- an act of the last step changes that step alone
step-act : (P m : ℕ) (A : List ℕ) (w : ℕ) (f : Arcs → Arcs) → move_tag m ≤ tag_of w → tag_of w ≤ after_tag m → f (step_in A m) ≡ step_in (A ++ (w ∷ [])) m
    → in_step (net_in P (suc m) A) f ≡ net_in P (suc m) (A ++ (w ∷ []))
step-act P m A w f a b e = λ i. draft P (length (ps i)) (ps i) (sym (mapped-other bond_of coupled_tag A w (λ d. omega arith)) i) (ts i)
  where
    ps : places_in A ≡ places_in (A ++ (w ∷ []))
    ps = sym (mapped-other first_of part_tag A w (λ d. omega arith))

    ts : on_last f (table (suc m) (step_in A)) ≡ table (suc m) (step_in (A ++ (w ∷ [])))
    ts = last-table f m (step_in A) (step_in (A ++ (w ∷ []))) (λ k l. sym (other_step A w k (λ d. omega arith) (λ d. omega arith) (λ d. omega arith))) e

-- a step more has no acts yet
no-acts : (S : ℕ) (A : List ℕ) → Below (3 * S + 3) A → no_arcs ≡ step_in A S
no-acts S A h = λ i. arcs (map entry_of (sym (h (move_tag S) (omega arith)) i)) (map bond_of (sym (h (before_tag S) (omega arith)) i)) (map bond_of (sym (h (after_tag S) (omega arith)) i))

-- ---- the lines, one by one

module _ (P : ℕ) (A : List ℕ) where
  pub part-adds : (S p x : ℕ) → x ≤ 255 → added (net_in P S A) (Part p x) ≡ net_in P S (A ++ (act_of part_tag x 0 0 ∷ []))
  part-adds S p x h = λ i. draft P (len i) (ps i) (sym (mapped-other bond_of coupled_tag A w (λ d. omega (arith, tag))) i) (start-act S A w (omega (arith, tag)) i)
    where
      w : ℕ
      w = act_of part_tag x 0 0

      tag : tag_of w ≡ part_tag
      tag = tag_back part_tag x 0 0 h (omega arith) (omega arith)

      ps : places_in A ++ (x ∷ []) ≡ places_in (A ++ (w ∷ []))
      ps = sym (mapped-more first_of part_tag A w x tag (first_back part_tag x 0 0 h (omega arith) (omega arith)))

      len : suc (length (places_in A)) ≡ length (places_in (A ++ (w ∷ [])))
      len = sym (add-one (length (places_in A))) ∙ sym (length-append (places_in A) (x ∷ [])) ∙ ap length ps

  pub coupled-adds : (S p q : ℕ) → p ≤ 255 → q ≤ 255 → added (net_in P S A) (Coupled p q) ≡ net_in P S (A ++ (act_of coupled_tag p q 0 ∷ []))
  coupled-adds S p q h k = λ i. draft P (length (ps i)) (ps i) (bs i) (start-act S A w (omega (arith, tag)) i)
    where
      w : ℕ
      w = act_of coupled_tag p q 0

      tag : tag_of w ≡ coupled_tag
      tag = tag_back coupled_tag p q 0 h k (omega arith)

      ps : places_in A ≡ places_in (A ++ (w ∷ []))
      ps = sym (mapped-other first_of part_tag A w (λ d. omega (arith, tag)))

      bs : bonds_at coupled_tag A ++ (bond p q ∷ []) ≡ bonds_at coupled_tag (A ++ (w ∷ []))
      bs = sym (mapped-more bond_of coupled_tag A w (bond p q) tag (bond-back coupled_tag p q 0 h k (omega arith)))

  pub step-adds : (S k : ℕ) → Below (3 * S + 3) A → added (net_in P S A) (Step k) ≡ net_in P (S + 1) A
  step-adds S k h =
      ap (draft P (length (places_in A)) (places_in A) (bonds_at coupled_tag A))
      (ap (λ (t : Arcs). table S (step_in A) ++ (t ∷ [])) (no-acts S A h) ∙ sym (table_more S (step_in A)))

  pub move-adds : (S p x y : ℕ) → p ≤ 255 → x ≤ 255 → y ≤ 255 → not (none (table S (step_in A))) ≡ true → added (net_in P S A) (Move p x y) ≡ net_in P S (A ++ (act_of (3 * S) p x y ∷ []))
  move-adds zero p x y a b c n = never n
  move-adds (suc m) p x y a b c n = step-act P m A w (λ (t : Arcs). arcs (t.entries ++ ((record { base = p; from = x; to = y }) ∷ [])) t.in_bonds t.out_bonds) (omega (arith, tag)) (omega (arith, tag)) made
    where
      w : ℕ
      w = act_of (3 * suc m) p x y

      tag : tag_of w ≡ 3 * suc m
      tag = tag_back (3 * suc m) p x y a b c

      made : arcs (entries_at (move_tag m) A ++ (record { base = p; from = x; to = y } ∷ [])) (bonds_at (before_tag m) A) (bonds_at (after_tag m) A) ≡ step_in (A ++ (w ∷ [])) m
      made = λ i. arcs (sym (mapped-more entry_of (move_tag m) A w _ (omega (arith, tag)) (entry-back (3 * suc m) p x y a b c)) i)
          (sym (mapped-other bond_of (before_tag m) A w (λ d. omega (arith, tag))) i) (sym (mapped-other bond_of (after_tag m) A w (λ d. omega (arith, tag))) i)

  pub before-adds : (S p q : ℕ) → p ≤ 255 → q ≤ 255 → not (none (table S (step_in A))) ≡ true → added (net_in P S A) (Before p q) ≡ net_in P S (A ++ (act_of (3 * S + 1) p q 0 ∷ []))
  before-adds zero p q a b n = never n
  before-adds (suc m) p q a b n = step-act P m A w (λ (t : Arcs). arcs t.entries (t.in_bonds ++ (bond p q ∷ [])) t.out_bonds) (omega (arith, tag)) (omega (arith, tag)) made
    where
      w : ℕ
      w = act_of (3 * suc m + 1) p q 0

      tag : tag_of w ≡ 3 * suc m + 1
      tag = tag_back (3 * suc m + 1) p q 0 a b (omega arith)

      made : arcs (entries_at (move_tag m) A) (bonds_at (before_tag m) A ++ (bond p q ∷ [])) (bonds_at (after_tag m) A) ≡ step_in (A ++ (w ∷ [])) m
      made = λ i. arcs (sym (mapped-other entry_of (move_tag m) A w (λ d. omega (arith, tag))) i)
          (sym (mapped-more bond_of (before_tag m) A w _ (omega (arith, tag)) (bond-back (3 * suc m + 1) p q 0 a b (omega arith))) i) (sym (mapped-other bond_of (after_tag m) A w (λ d. omega (arith, tag))) i)

  pub after-adds : (S p q : ℕ) → p ≤ 255 → q ≤ 255 → not (none (table S (step_in A))) ≡ true → added (net_in P S A) (After p q) ≡ net_in P S (A ++ (act_of (3 * S + 2) p q 0 ∷ []))
  after-adds zero p q a b n = never n
  after-adds (suc m) p q a b n = step-act P m A w (λ (t : Arcs). arcs t.entries t.in_bonds (t.out_bonds ++ (bond p q ∷ []))) (omega (arith, tag)) (omega (arith, tag)) made
    where
      w : ℕ
      w = act_of (3 * suc m + 2) p q 0

      tag : tag_of w ≡ 3 * suc m + 2
      tag = tag_back (3 * suc m + 2) p q 0 a b (omega arith)

      made : arcs (entries_at (move_tag m) A) (bonds_at (before_tag m) A) (bonds_at (after_tag m) A ++ (bond p q ∷ [])) ≡ step_in (A ++ (w ∷ [])) m
      made = λ i. arcs (sym (mapped-other entry_of (move_tag m) A w (λ d. omega (arith, tag))) i) (sym (mapped-other bond_of (before_tag m) A w (λ d. omega (arith, tag))) i)
          (sym (mapped-more bond_of (after_tag m) A w _ (omega (arith, tag)) (bond-back (3 * suc m + 2) p q 0 a b (omega arith))) i)
