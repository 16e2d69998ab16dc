-- An accepted sheet's text has room: the text of each stretch is at most line_room bytes for each byte of the stretch, and the
-- stretches follow each other up to the sheet's end. Assumes nothing.
use mathlib.Core.Path.{◌≡◌, ap}
use mathlib.Core.Bool.{Bool, true, false}
use Prim.Native.Nat.{ℕ, zero, suc, ◌+◌, ◌-◌, ◌*◌, ◌<◌, ◌≤◌}
use native.Mathlib.Omega.{arith}
use native.Mathlib.Nat.{le_of_suc-le-suc, not-suc-le-zero}
use mathlib.Core.List.{List, [], ◌++◌}
use lib.Dec.{leb}
use lib.ListN.{length, take, drop, length-take, length-append}
use borrow.Author.Tests.{lt-ltb}
use Rattle.net.specs.Limits.{max_sheet}
use Rattle.net.specs.Tests.{pick, table}
use Rattle.net.specs.Checks.{clear, first}
use Rattle.net.specs.Journal.{transition}
use Rattle.text.specs.Joined.{joined}
use Rattle.text.proofs.Joined.{joined-more}
use Rattle.format.specs.Parts.{bases_of, transitions_of, pairs_of, offset_of, length_of, part_of, start_places, transition_bytes}
use Rattle.format.specs.Arcs.{arcs_width}
use Rattle.format.specs.NetOf.{start_bond_count}
use Rattle.sheet_head.specs.Conditions.{follow, parts_begin}
use Rattle.sheet.specs.Checks.{sheet_checks, checked}
use Rattle.net.specs.declared.Verdict.TheVariants.{Accepted}
use Rattle.sheet.proofs.Accepted.{clear_of, accepted-promised}
use Rattle.encode.proofs.Whole.{follow-next, follow-le, paired, width}
use Rattle.sheet_print.specs.Pieces.{parts_text, coupled_text, step_at, steps_text}
use Rattle.sheet_print.specs.Room.{line_room, StepsFit, text_room}
use Rattle.sheet_print.proofs.Lists.{parts-upto, coupled-upto}
use Rattle.sheet_print.proofs.Steps.{step_fits}

-- ---- stretches that follow each other

-- texts f of the stretches from k on, none longer than line_room bytes for each byte of its stretch: the j-th has room behind those
-- before it
texts-fit : (s : List ℕ) (at k n : ℕ) (f : ℕ → List ℕ) → follow s at k n ≡ true → ((i : ℕ) → i < n → length (f i) ≤ line_room * length_of s (k + i))
    → (j : ℕ) → j < n → line_room * at + length (joined (table j f)) + line_room * length_of s (k + j) ≤ line_room * length s
texts-fit s at k zero f h g j l = absurd (not-suc-le-zero l)
texts-fit s at k (suc n) f h g zero l =
    let e : length_of s (k + 0) ≡ length_of s k = ap (length_of s) (let z : k + 0 ≡ k = omega arith in z) in
    let b = follow-le s (at + length_of s k) (k + 1) n (follow-next s at k n h) in
    omega arith
texts-fit s at k (suc n) f h g (suc j) l =
    let e : length_of s (k + 0) ≡ length_of s k = ap (length_of s) (let z : k + 0 ≡ k = omega arith in z) in
    let d : length_of s (k + 1 + j) ≡ length_of s (k + suc j) = ap (length_of s) (let z : k + 1 + j ≡ k + suc j = omega arith in z) in
    let a = length-append (f zero) (joined (table j (λ i. f (suc i)))) in
    let c = g zero (omega arith) in
    let b = texts-fit s (at + length_of s k) (k + 1) n (λ i. f (suc i)) (follow-next s at k n h) (λ i q.
    let z : length_of s (k + suc i) ≡ length_of s (k + 1 + i) = ap (length_of s) (let y : k + suc i ≡ k + 1 + i = omega arith in y) in
    let p = g (suc i) (omega arith) in
    omega arith) j (le_of_suc-le-suc l) in
    omega arith

-- ---- the stretches of a sheet

taken : (b : Bool) (n : ℕ) (l : List ℕ) → length (pick b (take n l) []) ≤ n
taken true n l = simp length-take (omega arith)
taken false n l = omega arith

part-le : (s : List ℕ) (k : ℕ) → length (part_of s k) ≤ length_of s k
unfolding part_of
part-le s k = taken (leb (offset_of s k + length_of s k) (length s)) (length_of s k) (drop (offset_of s k) s)

-- the text of stretch k: parts, couplings, then the steps
abbrev piece_text : List ℕ → ℕ → List ℕ
piece_text s zero = parts_text s
piece_text s (suc zero) = coupled_text s
piece_text s (suc (suc k)) = step_at s k

module _ (s : List ℕ) (h : checked s ≡ Accepted) where
  clears : clear (sheet_checks s) ≡ true
  unfolding checked
  clears = clear_of (clear (sheet_checks s)) (first (sheet_checks s)) h

  step-bytes : (k : ℕ) → k < transitions_of s → arcs_width (transition_bytes s (transition k)) ≤ length_of s (2 + k)
  unfolding transition_bytes
  step-bytes k l =
      let z : k + 2 ≡ 2 + k = omega arith in
      let e : transition_bytes s (transition k) ≡ part_of s (2 + k) = rw (lt-ltb k (transitions_of s) l, z) in
      let d : length (transition_bytes s (transition k)) ≡ length (part_of s (2 + k)) = ap (λ (x : List ℕ). length x) e in
      omega (arith, width s clears k l, part-le s (2 + k))

  piece-fits : (i : ℕ) → i < pairs_of s → length (piece_text s i) ≤ line_room * length_of s (0 + i)
  piece-fits zero l =
      let n : length (start_places s) ≡ bases_of s = (accepted-promised s h).start_size in
      omega (arith, parts-upto s (bases_of s), part-le s 0)
  piece-fits (suc zero) l = omega (arith, coupled-upto s (start_bond_count s), part-le s 1)
  piece-fits (suc (suc k)) l =
      let e : length_of s (2 + k) ≡ length_of s (0 + suc (suc k)) = ap (length_of s) (let z : 2 + k ≡ 0 + suc (suc k) = omega arith in z) in
      omega (arith, step_fits s k, step-bytes k (omega arith))

  -- behind the first line and the pieces before it, piece j has room
  piece-room : (j : ℕ) → j < pairs_of s → line_room + length (joined (table j (piece_text s))) + line_room * length_of s (0 + j) ≤ text_room
  piece-room j l =
      let n : length s ≤ max_sheet = (accepted-promised s h).size in
      omega (arith, texts-fit s (parts_begin s) 0 (pairs_of s) (piece_text s) (paired s clears).1 piece-fits j l)

  pub parts-room : line_room + line_room * bases_of s ≤ text_room
  parts-room =
      let n : length (start_places s) ≡ bases_of s = (accepted-promised s h).start_size in
      omega (arith, piece-room 0 (omega arith), part-le s 0)

  pub coupled-room : line_room + length (parts_text s) + line_room * start_bond_count s ≤ text_room
  coupled-room = omega (arith, piece-room 1 (omega arith), part-le s 1, length-append (parts_text s) [])

  -- the steps, behind the first line, the parts and the couplings
  pub steps-room : (at n : ℕ) → at ≤ line_room + length (parts_text s) + length (coupled_text s) → text_room ≤ n → StepsFit s at n
  steps-room at n a b k l =
      let steps : List ℕ = joined (table k (step_at s)) in
      let e : length_of s (0 + suc (suc k)) ≡ length_of s (2 + k) = ap (length_of s) (let z : 0 + suc (suc k) ≡ 2 + k = omega arith in z) in
      omega (arith, piece-room (suc (suc k)) (omega arith), step-bytes k l, length-append (parts_text s) (coupled_text s ++ steps), length-append (coupled_text s) steps)

  -- all of it: the last step has room
  pub all_room : line_room + length (parts_text s) + length (coupled_text s) + length (steps_text s) ≤ text_room
  all_room =
      let some = (accepted-promised s h).transitions in
      let k : ℕ = transitions_of s - 1 in
      let e : k + 1 ≡ transitions_of s = omega arith in
      let last : length (joined (table (k + 1) (step_at s))) ≡ length (joined (table k (step_at s)) ++ step_at s k) = ap (λ (t : List ℕ). length t) (joined-more k (step_at s)) in
      let all : length (joined (table (k + 1) (step_at s))) ≡ length (steps_text s) = ap (λ (n : ℕ). length (joined (table n (step_at s)))) e in
      let fit = steps-room (line_room + length (parts_text s) + length (coupled_text s)) text_room (omega arith) (omega arith) k (omega arith) in
      omega (arith, fit, step_fits s k, length-append (joined (table k (step_at s))) (step_at s k))
