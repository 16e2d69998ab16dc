-- The bytes of the net that acts say are the bytes of the acts, and the tests on the counts are those of the net.
-- Assumes nothing.
use mathlib.Core.Path.{◌≡◌, refl, ap, subst, ◌∙◌}
use mathlib.Core.Bool.{Bool, true, ◌&&◌}
use Prim.Native.Nat.{ℕ, zero, suc, ◌+◌, ◌*◌, ◌<◌}
use native.Mathlib.Omega.{arith}
use mathlib.Core.List.{List, [], ◌∷◌, ◌++◌, map}
use lib.Dec.{leb}
use lib.ListN.{length, length-map}
use Rattle.net.specs.Tests.{all, table}
use Rattle.net.proofs.Tests.{and_l, and_r, all-at}
use Rattle.net.proofs.Tables.{length-table, get_d-table, table-cong}
use Rattle.text.specs.Joined.{joined}
use Rattle.format.specs.Bytes.{header_width, pair_width}
use Rattle.encode.specs.Encoding.{entry_bytes, all_bonds, arcs_bytes, stretches, pairs, bytes_of}
use Rattle.encode.proofs.Covers.{map-table}
use Rattle.sheet_draft.specs.Acts.{first_of, of_tag, bond_of, entry_of, part_tag, coupled_tag, move_tag, before_tag, after_tag, step_in, net_in}
use Rattle.sheet_draft.specs.Bytes.{bytes_at, count_of, step_bytes, step_fits, stretch_at, stretches_in, AllFit, counts_fit, sheet_in}
use Rattle.sheet_draft.specs.Made.{holdable_step}

-- ---- bytes

place-bytes : (xs : List ℕ) → map first_of xs ≡ joined (map (bytes_at 1) xs)
place-bytes [] = refl
place-bytes (x ∷ xs) = ap (λ (l : List ℕ). first_of x ∷ l) (place-bytes xs)

bond-bytes : (xs : List ℕ) → all_bonds (map bond_of xs) ≡ joined (map (bytes_at 2) xs)
bond-bytes [] = refl
bond-bytes (x ∷ xs) = ap (λ (l : List ℕ). bytes_at 2 x ++ l) (bond-bytes xs)

entry-bytes : (xs : List ℕ) → joined (map entry_bytes (map entry_of xs)) ≡ joined (map (bytes_at 3) xs)
entry-bytes [] = refl
entry-bytes (x ∷ xs) = ap (λ (l : List ℕ). bytes_at 3 x ++ l) (entry-bytes xs)

module _ (A : List ℕ) where
  step_is : (k : ℕ) → arcs_bytes (step_in A k) ≡ step_bytes A k
  unfolding step_bytes
  step_is k = λ i.
      (length-map (of_tag (move_tag k) A) entry_of i ∷ entry-bytes (of_tag (move_tag k) A) i)
      ++ (length-map (of_tag (before_tag k) A) bond_of i ∷ bond-bytes (of_tag (before_tag k) A) i)
      ++ (length-map (of_tag (after_tag k) A) bond_of i ∷ bond-bytes (of_tag (after_tag k) A) i)

  steps-are : (S : ℕ) → map arcs_bytes (table S (step_in A)) ≡ table S (step_bytes A)
  steps-are S = map-table arcs_bytes S (step_in A) ∙ table-cong S (λ k. arcs_bytes (step_in A k)) (step_bytes A) (λ k l. step_is k)

  stretches-are : (P S : ℕ) → stretches (net_in P S A) ≡ stretches_in (S + 2) A
  stretches-are P S =
      let e : suc (suc S) ≡ S + 2 = omega arith in
      (λ i. place-bytes (of_tag part_tag A) i ∷ bond-bytes (of_tag coupled_tag A) i ∷ steps-are S i) ∙ ap (λ (n : ℕ). table n (stretch_at A)) e

  -- the bytes of the net that acts say
  pub sheet-is : (P S : ℕ) → bytes_of (net_in P S A) ≡ sheet_in P S A
  unfolding bytes_of sheet_in
  sheet-is P S =
      let m : header_width + pair_width * length (stretches (net_in P S A)) ≡ 4 * (S + 2) + 4 =
      omega (arith, ap length (stretches-are P S), length-table (S + 2) (stretch_at A)) in
      λ i. (1 ∷ P ∷ length-map (of_tag part_tag A) first_of i ∷ length-table S (step_in A) i ∷ []) ++ pairs (m i) (stretches-are P S i) ++ joined (stretches-are P S i)

-- ---- tests

module _ {X Y : Type 0} where
  all-table : (n : ℕ) (f : X → Bool) (g : ℕ → X) (h : Y → Bool) (k : ℕ → Y) → ((i : ℕ) → f (g i) ≡ h (k i)) → all f (table n g) ≡ all h (table n k)
  all-table zero f g h k e = refl
  all-table (suc n) f g h k e = λ i. e zero i && all-table n f (λ j. g (suc j)) h (λ j. k (suc j)) (λ j. e (suc j)) i

module _ (A : List ℕ) where
  step_fits_lem : (k : ℕ) → holdable_step (step_in A k) ≡ step_fits A k
  step_fits_lem k = λ i.
      leb (length-map (of_tag (move_tag k) A) entry_of i) 255
      && (leb (length-map (of_tag (before_tag k) A) bond_of i) 255 && leb (length-map (of_tag (after_tag k) A) bond_of i) 255)

  pub counts-fit : (P S : ℕ) → (leb (net_in P S A).bases 255 && (leb (length (net_in P S A).transitions) 255 && all holdable_step (net_in P S A).transitions)) ≡ counts_fit S A
  unfolding counts_fit
  counts-fit P S = λ i.
      leb (length-map (of_tag part_tag A) first_of i) 255
      && (leb (length-table S (step_in A) i) 255 && all-table S holdable_step (step_in A) (step_fits A) (λ k. k) step_fits_lem i)

  -- what the writer is told
  module _ (S : ℕ) (h : counts_fit S A ≡ true) where
    pub few-parts : leb (count_of part_tag A) 255 ≡ true
    unfolding counts_fit
    few-parts = and_l (leb (count_of part_tag A) 255) (leb S 255 && all (step_fits A) (table S (λ k. k))) h

    rest : (leb S 255 && all (step_fits A) (table S (λ k. k))) ≡ true
    unfolding counts_fit
    rest = and_r (leb (count_of part_tag A) 255) (leb S 255 && all (step_fits A) (table S (λ k. k))) h

    pub few-steps : leb S 255 ≡ true
    few-steps = and_l (leb S 255) (all (step_fits A) (table S (λ k. k))) rest

    pub all_fit : AllFit (S + 2) A
    all_fit zero l = refl
    all_fit (suc zero) l = refl
    all_fit (suc (suc k)) l =
        let n : k < length (table S (λ (j : ℕ). j)) = rw (length-table S (λ (j : ℕ). j)) (omega arith) in
        let a = all-at (step_fits A) (table S (λ k. k)) 0 k (and_r (leb S 255) (all (step_fits A) (table S (λ k. k))) rest) n in
        subst (λ (j : ℕ). step_fits A j ≡ true) (get_d-table S (λ k. k) k 0 (omega arith)) a

-- ---- tests that were made one after the other

abbrev pub byte : ℕ → Bool
byte n = leb n 255

-- three tests, joined
pub three-tests : {a a' b b' c c' bc r : Bool} → a ≡ a' → b ≡ b' → c ≡ c' → bc ≡ (b && c) → r ≡ (a && bc) → r ≡ (a' && (b' && c'))
three-tests p q s j k = k ∙ (λ i. p i && (j ∙ (λ h. q h && s h)) i)
