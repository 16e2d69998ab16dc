-- For every accepted sheet of bytes: the bytes of its net are the sheet, bytes_of (net_of s) ≡ s.
-- Assumes nothing. Offsets are not computed backwards: parts and pairs stand one after the other.
use mathlib.Core.Path.{◌≡◌, refl, sym, ap, subst, ◌∙◌}
use mathlib.Core.Bool.{true, false, not}
use Prim.Native.Nat.{ℕ, zero, suc, ◌+◌, ◌*◌, ◌/◌, ◌%◌, ◌<◌, ◌≤◌}
use native.Mathlib.Omega.{arith}
use mathlib.Core.List.{List, [], ◌∷◌, ◌++◌, map}
use lib.Dec.{eqb, ltb}
use lib.ListN.{length, get_or, take, drop, length-take, length-drop, take-append-drop}
use lib.Seq.{drop-drop}
use borrow.Author.Tests.{ltb-false, eqb-true, lt-ltb, le-leb, not-false}
use Rattle.net.specs.Tests.{table}
use Rattle.net.specs.Checks.{clear}
use Rattle.net.specs.Journal.{transition}
use Rattle.net.proofs.Tests.{and_l, and_r, or-no-l, or-no-r}
use Rattle.net.proofs.Tables.{length-table, table-cong}
use Rattle.text.specs.Joined.{joined}
use Rattle.format.specs.Bytes.{word_at, header_width, pair_width}
use Rattle.format.specs.Parts.{places_of, bases_of, transitions_of, pairs_of, offset_of, length_of, part_of, transition_bytes}
use Rattle.format.specs.Arcs.{arcs_in, arcs_width}
use Rattle.format.specs.NetOf.{net_of}
use Rattle.sheet_head.specs.Conditions.{follow, parts_begin, wrong_size, wrong_version, wrong_pairs, wrong_start_bonds}
use Rattle.sheet_arcs.specs.Conditions.{wrong_width}
use Rattle.sheet.specs.Checks.{sheet_checks}
use Rattle.sheet.proofs.Accepted.{head_at, at-transition}
use Rattle.encode.specs.Encoding.{bytes, word, all_bonds, arcs_bytes, stretches, pairs, bytes_of}
use Rattle.encode.proofs.Bytes.{byte_at}
use Rattle.encode.proofs.Covers.{Covers, covers-then, covers-byte, covers-all, map-table}
use Rattle.encode.proofs.Pieces.{two, bonds-back, arcs-back}

-- ---- the parts, in order

abbrev parts : List ℕ → ℕ → ℕ → List (List ℕ)
parts s k zero = []
parts s k (suc n) = part_of s k ∷ parts s (k + 1) n

parts-table : (s : List ℕ) (k n : ℕ) → parts s k n ≡ table n (λ i. part_of s (k + i))
parts-table s k zero = refl
parts-table s k (suc n) =
    let z : k ≡ k + 0 = omega arith in
    let e : parts s (k + 1) n ≡ table n (λ i. part_of s (k + suc i)) =
    parts-table s (k + 1) n ∙ table-cong n (λ i. part_of s (k + 1 + i)) (λ i. part_of s (k + suc i)) (λ i l. ap (part_of s) (let q : k + 1 + i ≡ k + suc i = omega arith in q)) in
    λ i. ap (part_of s) z i ∷ e i

length-parts : (s : List ℕ) (k n : ℕ) → length (parts s k n) ≡ n
length-parts s k zero = refl
length-parts s k (suc n) = ap suc (length-parts s (k + 1) n)

follow-here : (s : List ℕ) (at k n : ℕ) → follow s at k (suc n) ≡ true → offset_of s k ≡ at
follow-here s at k n h = eqb-true (offset_of s k) at (and_l (eqb (offset_of s k) at) (follow s (at + length_of s k) (k + 1) n) h)

pub follow-next : (s : List ℕ) (at k n : ℕ) → follow s at k (suc n) ≡ true → follow s (at + length_of s k) (k + 1) n ≡ true
follow-next s at k n h = and_r (eqb (offset_of s k) at) (follow s (at + length_of s k) (k + 1) n) h

pub follow-le : (s : List ℕ) (at k n : ℕ) → follow s at k n ≡ true → at ≤ length s
follow-le s at k zero h = let e : at ≡ length s = eqb-true at (length s) h in omega arith
follow-le s at k (suc n) h = let l = follow-le s (at + length_of s k) (k + 1) n (follow-next s at k n h) in omega arith

module _ (s : List ℕ) (at k n : ℕ) (h : follow s at k (suc n) ≡ true) where
  fits : at + length_of s k ≤ length s
  fits = follow-le s (at + length_of s k) (k + 1) n (follow-next s at k n h)

  part-there : part_of s k ≡ take (length_of s k) (drop at s)
  unfolding part_of
  part-there = rw (follow-here s at k n h, le-leb _ _ fits)

  part_length : length (part_of s k) ≡ length_of s k
  part_length = let f = fits in rw part-there (simp (length-take, length-drop) (omega arith))

  part-covers : Covers s at (at + length_of s k) (part_of s k)
  part-covers = rw (part-there, ← drop-drop (length_of s k) at s) (take-append-drop (length_of s k) (drop at s))

parts-cover : (s : List ℕ) (at k n : ℕ) → follow s at k n ≡ true → Covers s at (length s) (joined (parts s k n))
parts-cover s at k zero h = let e : at ≡ length s = eqb-true at (length s) h in rw e
parts-cover s at k (suc n) h =
    covers-then s at (at + length_of s k) (length s) (part_of s k) (joined (parts s (k + 1) n)) (part-covers s at k n h)
    (parts-cover s (at + length_of s k) (k + 1) n (follow-next s at k n h))

-- ---- the pairs

-- a word that is read is written again
word-covers : (s : List ℕ) (i j n : ℕ) → bytes s ≡ true → j ≡ i + 2 → j ≤ length s → n ≡ word_at s i → Covers s i j (word n)
word-covers s i j n b e l q =
    let x = byte_at s i b in
    let lo : n % 256 ≡ get_or s i 0 = omega arith in
    let hi : n / 256 ≡ get_or s (i + 1) 0 = omega arith in
    rw (lo, hi) (two s i j e l)

pairs-cover : (s : List ℕ) (at k n : ℕ) → bytes s ≡ true → 4 + 4 * (k + n) ≤ length s → follow s at k n ≡ true → Covers s (4 + 4 * k) (4 + 4 * (k + n)) (pairs at (parts s k n))
pairs-cover s at k zero b l h = let e : k + 0 ≡ k = omega arith in rw e
pairs-cover s at k (suc n) b l h =
    let e : k + suc n ≡ k + 1 + n = omega arith in
    let end : ℕ = 4 + 4 * (k + suc n) in
    let d : 4 + 4 * (k + 1) ≡ 4 + 4 * k + 2 + 2 = omega arith in
    let rest : Covers s (4 + 4 * (k + 1)) (4 + 4 * (k + suc n)) (pairs (at + length_of s k) (parts s (k + 1) n)) =
    rw e (pairs-cover s (at + length_of s k) (k + 1) n b (omega arith) (follow-next s at k n h)) in
    rw (part_length s at k n h)
    (covers-then s (4 + 4 * k) (4 + 4 * k + 2) (4 + 4 * (k + suc n)) (word at) (word (length_of s k) ++ pairs (at + length_of s k) (parts s (k + 1) n))
    (word-covers s (4 + 4 * k) (4 + 4 * k + 2) at b refl (omega arith) (sym (follow-here s at k n h)))
    (covers-then s (4 + 4 * k + 2) (4 + 4 * (k + 1)) (4 + 4 * (k + suc n)) (word (length_of s k)) (pairs (at + length_of s k) (parts s (k + 1) n))
    (word-covers s (4 + 4 * k + 2) (4 + 4 * (k + 1)) (length_of s k) b d (omega arith) refl)
    rest))

-- ---- what acceptance says of the bytes

module _ (s : List ℕ) (h : clear (sheet_checks s) ≡ true) where
  size : 4 ≤ length s
  unfolding wrong_size
  size = ltb-false (length s) 4 (or-no-l (ltb (length s) 4) _ (head_at s h 0 (omega arith)))

  version : get_or s 0 0 ≡ 1
  unfolding wrong_version
  version = eqb-true (get_or s 0 0) 1 (not-false _ (head_at s h 1 (omega arith)))

  pub paired : (parts_begin s ≤ length s) × (follow s (parts_begin s) 0 (pairs_of s) ≡ true)
  unfolding wrong_pairs
  paired =
      let w : wrong_pairs s ≡ false = head_at s h 3 (omega arith) in
      (ltb-false (length s) (parts_begin s) (or-no-l (ltb (length s) (parts_begin s)) _ w), not-false _ (or-no-r (ltb (length s) (parts_begin s)) (not (follow s (parts_begin s) 0 (pairs_of s))) w))

  even : length (part_of s 1) % 2 ≡ 0
  unfolding wrong_start_bonds
  even = eqb-true (length (part_of s 1) % 2) 0 (not-false _ (or-no-l (not (eqb (length (part_of s 1) % 2) 0)) _ (head_at s h 5 (omega arith))))

  pub width : (k : ℕ) → k < transitions_of s → length (transition_bytes s (transition k)) ≡ arcs_width (transition_bytes s (transition k))
  unfolding wrong_width
  width k l =
      let b : List ℕ = transition_bytes s (transition k) in
      eqb-true (length b) (arcs_width b) (not-false _ (or-no-l (not (eqb (length b) (arcs_width b))) _ (at-transition s h (transition k) 0 l (omega arith))))

-- ---- the stretches of an accepted sheet's net are its parts

module _ (s : List ℕ) (h : clear (sheet_checks s) ≡ true) where
  abbrev n : ℕ
  n = transitions_of s

  step_back : (k : ℕ) → k < n → arcs_bytes (arcs_in (transition_bytes s (transition k))) ≡ part_of s (2 + k)
  unfolding transition_bytes
  step_back k l =
      let e : k + 2 ≡ 2 + k = omega arith in
      let w : transition_bytes s (transition k) ≡ part_of s (2 + k) = rw (lt-ltb k n l, e) in
      arcs-back (transition_bytes s (transition k)) (width s h k l) ∙ w

  steps_back : map arcs_bytes (net_of s).transitions ≡ parts s 2 n
  unfolding net_of
  steps_back =
      map-table arcs_bytes n (λ k. arcs_in (transition_bytes s (transition k)))
      ∙ table-cong n (λ k. arcs_bytes (arcs_in (transition_bytes s (transition k)))) (λ k. part_of s (2 + k)) step_back
      ∙ sym (parts-table s 2 n)

  start_back : all_bonds (net_of s).start.bonds ≡ part_of s 1
  unfolding net_of
  start_back = bonds-back (part_of s 1) (even s h)

  stretches-back : stretches (net_of s) ≡ parts s 0 (suc (suc n))
  unfolding net_of
  stretches-back = λ i. part_of s 0 ∷ start_back i ∷ steps_back i

  many : length (net_of s).transitions ≡ n
  unfolding net_of
  many = length-table n (λ k. arcs_in (transition_bytes s (transition k)))

  head-covers : Covers s 0 4 (1 ∷ places_of s ∷ bases_of s ∷ n ∷ [])
  head-covers =
      let v : get_or s 0 0 ≡ 1 = version s h in
      let l = size s h in
      subst (λ (k : ℕ). Covers s 0 4 (k ∷ places_of s ∷ bases_of s ∷ n ∷ [])) v
      (covers-then s 0 1 4 (get_or s 0 0 ∷ []) (get_or s 1 0 ∷ get_or s 2 0 ∷ get_or s 3 0 ∷ []) (covers-byte s 0 (omega arith))
      (covers-then s 1 2 4 (get_or s 1 0 ∷ []) (get_or s 2 0 ∷ get_or s 3 0 ∷ []) (covers-byte s 1 (omega arith)) (two s 2 4 refl l)))

  header : Covers s 0 4 (1 ∷ (net_of s).places ∷ (net_of s).bases ∷ length (net_of s).transitions ∷ [])
  unfolding net_of
  header = rw many head-covers

  -- For every accepted sheet: the bytes of its net are the sheet.
  pub sheet-back : bytes s ≡ true → bytes_of (net_of s) ≡ s
  unfolding bytes_of
  sheet-back b =
      let (room, f) = paired s h in
      let e : pairs_of s ≡ suc (suc n) = omega arith in
      let f' : follow s (parts_begin s) 0 (suc (suc n)) ≡ true = subst (λ (k : ℕ). follow s (parts_begin s) 0 k ≡ true) e f in
      let z : parts_begin s ≡ 4 + 4 * (0 + suc (suc n)) = omega arith in
      let m : header_width + pair_width * length (stretches (net_of s)) ≡ parts_begin s =
      ap (λ (k : ℕ). header_width + pair_width * k) (ap length stretches-back ∙ length-parts s 0 (suc (suc n)) ∙ sym e) in
      covers-all s (bytes_of (net_of s))
      (covers-then s 0 4 (length s) (1 ∷ (net_of s).places ∷ (net_of s).bases ∷ length (net_of s).transitions ∷ []) (pairs (header_width + pair_width * length (stretches (net_of s))) (stretches (net_of s)) ++ joined (stretches (net_of s))) header
      (covers-then s 4 (parts_begin s) (length s) (pairs (header_width + pair_width * length (stretches (net_of s))) (stretches (net_of s))) (joined (stretches (net_of s)))
      (subst (λ (k : ℕ). Covers s 4 (parts_begin s) (pairs k (stretches (net_of s)))) (sym m)
      (subst (λ (l : List (List ℕ)). Covers s 4 (parts_begin s) (pairs (parts_begin s) l)) (sym stretches-back)
      (subst (λ (k : ℕ). Covers s 4 k (pairs (parts_begin s) (parts s 0 (suc (suc n))))) (sym z)
      (pairs-cover s (parts_begin s) 0 (suc (suc n)) b (omega arith) f'))))
      (subst (λ (l : List (List ℕ)). Covers s (parts_begin s) (length s) (joined l)) (sym stretches-back) (parts-cover s (parts_begin s) 0 (suc (suc n)) f'))))
