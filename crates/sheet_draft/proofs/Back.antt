-- For every accepted sheet of bytes, what is made of its printed text is the sheet; and sheet B's text as a person writes it.
-- Assumes nothing.
use mathlib.Core.Path.{◌≡◌, refl, sym, ap, ◌∙◌}
use mathlib.Core.Bool.{true, ◌&&◌}
use Prim.Native.Nat.{ℕ, ◌+◌, ◌≤◌}
use native.Mathlib.Omega.{arith}
use mathlib.Core.List.{List, []}
use lib.Dec.{leb, ltb}
use lib.ListN.{length, take, drop}
use borrow.Author.Tests.{le-leb}
use Rattle.net.specs.Tests.{all, table}
use Rattle.net.specs.Journal.{transition}
use Rattle.net.proofs.Tests.{and_i, pick-case}
use Rattle.net.proofs.Tables.{length-table}
use Rattle.format.specs.Bytes.{leading_pairs}
use Rattle.format.specs.Parts.{transitions_of, part_of, length_of, offset_of, transition_bytes}
use Rattle.format.specs.Arcs.{entry_count, nth_entry, arcs_in, in_at, in_count, nth_in_bond, out_at, out_count, nth_out_bond}
use Rattle.format.specs.NetOf.{net_of}
use Rattle.sheet.specs.Checks.{checked}
use Rattle.net.specs.declared.Verdict.TheVariants.{Accepted}
use Rattle.sheet.proofs.Arcs.{all-table}
use Rattle.sheet.proofs.Accepted.{accepted-promised}
use Rattle.encode.specs.Encoding.{bytes, bytes_of}
use Rattle.encode.proofs.Bytes.{byte_at, bytes_take, bytes_drop}
use Rattle.sheet_text.specs.Claims.{sheet_of}
use Rattle.sheet_text.proofs.Back.{read_back}
use Rattle.sheet_draft.specs.Notes.{most_bytes}
use Rattle.sheet_draft.specs.Made.{holdable_step, holdable, made_of, sheet_made}
use Rattle.sheet_draft.specs.Claims.{MadeBack}

-- ---- every part of a sheet of bytes is of bytes

module _ (s : List ℕ) (b : bytes s ≡ true) where
  part_bytes : (k : ℕ) → bytes (part_of s k) ≡ true
  unfolding part_of
  part_bytes k = pick-case (λ (l : List ℕ). bytes l ≡ true) (leb (offset_of s k + length_of s k) (length s)) (take (length_of s k) (drop (offset_of s k) s)) [] (λ e. bytes_take (length_of s k) (drop (offset_of s k) s) (bytes_drop (offset_of s k) s b)) (λ e. refl)

  step-bytes : (k : ℕ) → bytes (transition_bytes s (transition k)) ≡ true
  unfolding transition_bytes
  step-bytes k = pick-case (λ (l : List ℕ). bytes l ≡ true) (ltb k (transitions_of s)) (part_of s (k + leading_pairs)) [] (λ e. part_bytes (k + leading_pairs)) (λ e. refl)

-- ---- an accepted sheet's net can be held

count_held : {X : Type 0} (n : ℕ) (g : ℕ → X) → n ≤ 255 → leb (length (table n g)) 255 ≡ true
count_held n g h = le-leb (length (table n g)) 255 (omega (arith, length-table n g))

-- a step's counts are bytes of the sheet
step-held : (l : List ℕ) → bytes l ≡ true → holdable_step (arcs_in l) ≡ true
step-held l h =
    and_i (leb (length (arcs_in l).entries) 255) (leb (length (arcs_in l).in_bonds) 255 && leb (length (arcs_in l).out_bonds) 255)
    (count_held (entry_count l) (nth_entry l) (byte_at l 0 h))
    (and_i (leb (length (arcs_in l).in_bonds) 255) (leb (length (arcs_in l).out_bonds) 255)
    (count_held (in_count l) (nth_in_bond l) (byte_at l (in_at l) h)) (count_held (out_count l) (nth_out_bond l) (byte_at l (out_at l) h)))

module _ (s : List ℕ) (h : checked s ≡ Accepted) (b : bytes s ≡ true) where
  bytes-again : bytes_of (net_of s) ≡ s
  bytes-again = let r = read_back s h b in ap sheet_of (sym r.net) ∙ r.bytes

  size-held : leb (length (bytes_of (net_of s))) most_bytes ≡ true
  size-held = let p = accepted-promised s h in le-leb (length (bytes_of (net_of s))) most_bytes (rw bytes-again (omega (arith, p.size)))

  parts_held : leb (net_of s).bases 255 ≡ true
  unfolding net_of
  parts_held = le-leb _ 255 (byte_at s 2 b)

  steps-held : leb (length (net_of s).transitions) 255 ≡ true
  unfolding net_of
  steps-held = count_held (transitions_of s) (λ k. arcs_in (transition_bytes s (transition k))) (byte_at s 3 b)

  counts-held : all holdable_step (net_of s).transitions ≡ true
  unfolding net_of
  counts-held = all-table holdable_step (transitions_of s) (λ k. arcs_in (transition_bytes s (transition k))) (λ k l. step-held (transition_bytes s (transition k)) (step-bytes s b k))

  held : holdable (net_of s) ≡ true
  held = and_i _ _ size-held (and_i _ _ parts_held (and_i _ _ steps-held counts-held))

  pub made-back : MadeBack s
  made-back = let r = read_back s h b in record {
    made = ap made_of r.net ∙ rw (held, bytes-again);
    bytes = ap sheet_made r.net ∙ rw (held, bytes-again);
  }
