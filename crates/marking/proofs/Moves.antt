-- An element put into the first n of a list or taken out of them, after the elements behind it were copied one further or one
-- nearer: the list is `slot` or `gap` from its front. Assumes nothing.
use Rattle.std.proofs.Common.{◌≡◌, ℕ, suc, ◌+◌, ◌-◌, ◌<◌, ◌≤◌, List, ◌∷◌, ◌++◌, length, get_or, drop, sym, ◌∙◌, ap, arith}
use Rattle.std.proofs.Math.ListN.{set}
use Rattle.std.proofs.lemmas.List.{length-set, length-drop, get_or-set_same, get_or-set_other, drop-set-lt}
use Rattle.std.proofs.lemmas.List.Edits.{drop-paste}
use Rattle.std.specs.List.{copy_within, CopiedTo, SameBelow}
use lib.Dec.{eqb, ltb}
use borrow.Author.Tests.{ltb-true, ltb-false, eqb-true, eqb-false}
use Rattle.causal.proofs.Tests.{test}
use Rattle.net.specs.Tests.{table}
use Rattle.bonds.proofs.InPlace.{fill_start, fill-last}
use Rattle.marking.specs.Shift.{slot, gap}
use Rattle.marking.proofs.Shifts.{slot-below, slot_at, slot-above, gap_below, gap_from}

module _ (k n : ℕ) (x : ℕ) (a now : List ℕ) (size : length now ≡ length a) (room : n < length a) where
  -- k to n were copied one further, and x goes in at k
  pub insert-moved : k ≤ n → now ≡ copy_within a k n (k + 1) → SameBelow a now (k + 1) → CopiedTo a now k (k + 1) (n - k)
      → set now k x ≡ table (n + 1) (slot k x (λ i. get_or a i 0)) ++ drop (n + 1) a
  insert-moved h e below moved =
      fill_start (slot k x (λ i. get_or a i 0)) (n + 1) (set now k x) 0 (rw (length-set now k x) (omega arith)) here
      ∙ ap (λ (l : List ℕ). table (n + 1) (slot k x (λ i. get_or a i 0)) ++ l) (drop-set-lt (n + 1) now k x (omega arith) ∙ rest)
    where
      here : (p : ℕ) → p < n + 1 → slot k x (λ i. get_or a i 0) p ≡ get_or (set now k x) p 0
      here p q = test (ltb p k)
          (λ t. let u = ltb-true p k t in slot-below k x (λ i. get_or a i 0) p u ∙ sym (get_or-set_other now k p x 0 (λ d. omega arith) ∙ below p 0 (omega arith)))
          (λ t. test (eqb p k)
          (λ d. let u = eqb-true p k d in slot_at k x (λ i. get_or a i 0) p u ∙ sym (ap (λ (j : ℕ). get_or (set now k x) j 0) u ∙ get_or-set_same now k x 0 (omega arith)))
          (λ d. let u = ltb-false p k t in let v = eqb-false p k d in let w : k < p = omega arith in
          let i : k + (p - (k + 1)) ≡ p - 1 = omega arith in
          slot-above k x (λ i. get_or a i 0) p w
          ∙ sym (get_or-set_other now k p x 0 v ∙ moved p 0 (omega arith) (omega arith) ∙ ap (λ (j : ℕ). get_or a j 0) i)))

      rest : drop (n + 1) now ≡ drop (n + 1) a
      rest = let i : k + 1 + (n - k) ≡ n + 1 = omega arith in
          ap (drop (n + 1)) e
          ∙ ap (λ (j : ℕ). drop j (copy_within a k n (k + 1))) (sym i)
          ∙ drop-paste a (k + 1) (drop k a) (n - k) (omega arith) (rw (length-drop k a) (omega arith))
          ∙ ap (λ (j : ℕ). drop j a) i

module _ (k n : ℕ) (a now : List ℕ) (size : length now ≡ length a) (room : n ≤ length a) where
  -- what stood behind k was copied one nearer, and the entry that this frees gets 0
  pub remove-moved : k < n → now ≡ copy_within a (k + 1) n k → SameBelow a now k → CopiedTo a now (k + 1) k (n - (k + 1))
      → set now (n - 1) 0 ≡ table (n - 1) (gap k (λ i. get_or a i 0)) ++ (0 ∷ drop n a)
  remove-moved h e below moved =
      let s : suc (n - 1) ≡ n = omega arith in
      fill-last (gap k (λ i. get_or a i 0)) (n - 1) n a now 0 0 (omega arith) s
      (fill_start (gap k (λ i. get_or a i 0)) (n - 1) now 0 (omega arith) here ∙ ap (λ (l : List ℕ). table (n - 1) (gap k (λ i. get_or a i 0)) ++ l) rest)
    where
      here : (p : ℕ) → p < n - 1 → gap k (λ i. get_or a i 0) p ≡ get_or now p 0
      here p q = test (ltb p k)
          (λ t. let u = ltb-true p k t in gap_below k (λ i. get_or a i 0) p u ∙ sym (below p 0 u))
          (λ t. let u = ltb-false p k t in let i : k + 1 + (p - k) ≡ p + 1 = omega arith in
          gap_from k (λ i. get_or a i 0) p u ∙ sym (moved p 0 u (omega arith) ∙ ap (λ (j : ℕ). get_or a j 0) i))

      rest : drop (n - 1) now ≡ drop (n - 1) a
      rest = let i : k + (n - (k + 1)) ≡ n - 1 = omega arith in
          ap (drop (n - 1)) e
          ∙ ap (λ (j : ℕ). drop j (copy_within a (k + 1) n k)) (sym i)
          ∙ drop-paste a k (drop (k + 1) a) (n - (k + 1)) (omega arith) (rw (length-drop (k + 1) a) (omega arith))
          ∙ ap (λ (j : ℕ). drop j a) i
