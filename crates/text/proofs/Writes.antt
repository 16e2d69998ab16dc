-- Laws of stores into a buffer: one run of stores after another, a copy, and a text written piece by piece.
-- Assumes nothing.
use mathlib.Core.Path.{◌≡◌, refl, sym, ap, ◌∙◌}
use Prim.Native.Nat.{ℕ, suc, ◌+◌, ◌≤◌}
use native.Mathlib.Nat.{add-zero, add-suc, suc-add, suc-ne-zero, zero-add}
use native.Mathlib.Omega.{arith}
use mathlib.Core.List.{List, [], ◌∷◌, ◌++◌, append_assoc}
use lib.ListN.{length, set, take, drop, length-append}
use lib.Seq.{sets, sets-eq, set_comm, drop-drop}
use borrow.Rule.Slice.PartMut.{put_mid}
use Rattle.text.specs.Writes.{Wrote}

shift : (i n : ℕ) → i + suc n ≡ suc i + n
shift i n = add-suc i n ∙ sym (suc-add i n)

module _ {A : Type 0} where
  pub sets-sets : (vs ws l : List A) (i : ℕ) → sets (sets l i vs) (i + length vs) ws ≡ sets l i (vs ++ ws)
  sets-sets [] ws l i = ap (λ (k : ℕ). sets l k ws) (add-zero i)
  sets-sets (a ∷ vs) ws l i = ap (λ (k : ℕ). sets (sets (set l i a) (suc i) vs) k ws) (shift i (length vs)) ∙ sets-sets vs ws (set l i a) (suc i)

  -- one store more
  pub sets-snoc : (vs l : List A) (i : ℕ) (x : A) → set (sets l i vs) (i + length vs) x ≡ sets l i (vs ++ (x ∷ []))
  sets-snoc vs l i x = sets-sets vs (x ∷ []) l i

  -- the same with the store made first
  pub sets_last : (vs l : List A) (i : ℕ) (x : A) → sets (set l (i + length vs) x) i vs ≡ sets l i (vs ++ (x ∷ []))
  sets_last [] l i x = ap (λ (k : ℕ). set l k x) (add-zero i)
  sets_last (a ∷ vs) l i x =
      let h : suc i + length vs ≡ i → ⊥ = λ e. omega arith in
      rw (shift i (length vs), set_comm l (suc i + length vs) i x a h) (sets_last vs (set l i a) (suc i) x)

  pub sets-none : (vs l : List A) (i : ℕ) → length vs ≡ 0 → sets l i vs ≡ l
  sets-none [] l i e = refl
  sets-none (a ∷ vs) l i e = absurd (suc-ne-zero (length vs) e)

  -- a run from the start is a prefix
  pub sets-front : (vs l : List A) → length vs ≤ length l → sets l 0 vs ≡ vs ++ drop (length vs) l
  sets-front vs l h =
      let e : 0 + length vs ≡ length vs = zero-add (length vs) in
      sets-eq vs l 0 (rw e h) ∙ rw e

-- a copy into the part from `at` on, of k elements
pub copied : (at k : ℕ) (l ws now : List ℕ) → now ≡ ws → k ≡ length ws → at + k ≤ length l → put_mid at k l now ≡ sets l at ws
copied at k l ws now n e h =
    let room : at + length ws ≤ length l = omega arith in
    rw (n, drop-drop k at l, e) (sym (append_assoc (take at l) ws (drop (at + length ws) l)) ∙ sym (sets-eq ws l at room))

-- a buffer l in which the text vs now stands from at on, up to k
pub record Written (l : List ℕ) (at : ℕ) (vs : List ℕ) (k : ℕ) (now : List ℕ) : Type 0 where
  pub count : k ≡ at + length vs
  pub list : now ≡ sets l at vs

pub written_none : (l : List ℕ) (at : ℕ) → Written l at [] at l
written_none l at = record { count = sym (add-zero at); list = refl }

-- one writer more
pub written-more : {l vs now : List ℕ} {at k : ℕ} (ws : List ℕ) {k' : ℕ} {now' : List ℕ} → Written l at vs k now → Wrote ws k now k' now' → Written l at (vs ++ ws) k' now'
written-more {l} {vs} {now} {at} {k} ws {k'} w e = record { count = counts; list = e.1 ∙ rw (w.list, w.count) (sets-sets vs ws l at) }
  where
    counts : k' ≡ at + length (vs ++ ws)
    counts = let a = length-append vs ws in let b = w.count in let d = e.0 in omega arith

-- all of it as what one writer wrote
pub written-pair : {l vs now : List ℕ} {at k : ℕ} → Written l at vs k now → Wrote vs at l k now
written-pair w = (w.count, w.list)
